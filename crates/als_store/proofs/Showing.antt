-- What the calls of the pool make of the pages, in short.
use Rattle.std.proofs.Common.{◌≡◌, ◌≢◌, ℕ, zero, suc, ◌<◌, IsTrue, List, [], length, take, Option, Some, None, inl}
use Rattle.std.proofs.Common.{inr, refl, sym, ap, subst, ◌∙◌, arith}
use Rattle.std.specs.Prelude.{Ok, is_some, MatchOption}
use Rattle.std.specs.Option.{option_map}
use Rattle.std.proofs.lemmas.Bool.{cases_eq}
use Rattle.std.proofs.lemmas.List.{get_or-set_other}
use Rattle.als_record.specs.declared.change.Change.{Change}
use Rattle.als_record.specs.declared.lsn.Lsn.{Lsn}
use Rattle.als_record.specs.declared.record.Record.{Record}
use Rattle.als_record.specs.Pages.{PageState, page_at, changes_above}
use Rattle.als_lease.specs.Lease.{Leased, working_of}
use Rattle.als_frames.specs.Frames.{Framed, Paged, frame_of, slot_of}
use Rattle.als_frames.specs.Images.{synced_lsn, synced_content, spelled_lsn, lsn_or, written_or}
use Rattle.als_frames.specs.Images.{lsn_now}
use Rattle.als_frames.specs.Images.{IsStoredAt, IsPageAt}
use Rattle.als_frames.specs.Leases.{lent_frame, returned_frame}
use Rattle.als_frames.specs.Outcomes.{synced_frame}
use Rattle.als_frames.proofs.Keeping.{reads, synced_is}
use Rattle.als_disk.specs.Slot.{Slot}
use Rattle.als_dirty.specs.declared.dirty_page.DirtyPage.{DirtyPage}
use Rattle.als_dirty.specs.Entries.{entry_of, after_write, untouched_page}
use Rattle.als_dirty.specs.Rows.{rec_lsn_of}
use Rattle.als_dirty.specs.Images.{first_lsn}
use Rattle.als_pool.specs.Queues.{pending_of}
use Rattle.als_pool.specs.Pooled.{Pooled, SameLsnsBut, view_of, unread_of}
use Rattle.als_pool.specs.Outcomes.{Loads, Lends, Gives, Flushes, SyncsPages}
use Rattle.als_pool.specs.Images.{IsPageOf, IsPoolOf, IsRead}
use Rattle.als_pool.proofs.QueueLists.{some_inside}
use Rattle.als_pool.proofs.PageSteps.{read-it}
use Rattle.als_pool.proofs.PoolLaws.{rec_lsn_first}
use Rattle.als_pool.proofs.PoolSteps.{framed}
use Rattle.als_pool.proofs.Keeping.{keeps_sync_pages, synced-frames}
use Rattle.als_pool.proofs.Lsns.{lsns_flush, lsns_sync}
use Rattle.als_store.proofs.PoolSteps.{calm_lends, calm_gives}
use Rattle.als_store.specs.Views.{IsRowOf, ShowsLend, ShowsGive, ShowsWrite, ShowsSync}

-- a page that is read, or is resident, is at the page_LSN that it is at now
lsn-loaded : (log : List Record) (below : ℕ) (old new : Pooled) (page end : ℕ) (o : Option Framed)
    → frame_of old.frames page ≡ o → page < length old.waits
    → MatchOption o (Loads old new page end) (λ f. new ≡ old) → IsPoolOf log below old
    → lsn_now new.frames page ≡ lsn_now old.frames page
lsn-loaded log below old new page end None is inside loads h =
    let within : page < old.frames.pages = omega (arith, inside, h.paged) in
    let stored : IsStoredAt log page below (synced_lsn old.frames page) (slot_of old.frames page)
    = subst (λ (o : Option Framed). IsPageAt log page below (synced_lsn old.frames page)
    old.frames.sure (slot_of old.frames page) o) is (h.frames.each page within) in
    let read : loads.content ≡ page_at log page (synced_lsn old.frames page) =
    reads log (synced_lsn old.frames) below old.frames page loads.content within is
    loads.fetched.found h.frames in
    ap (λ (o : Option Framed). lsn_or o (synced_lsn new.frames page)) loads.puts.frame
    ∙ ap (λ (s : PageState). s.lsn) read ∙ stored.stable.own
    ∙ sym (ap (λ (o : Option Framed). lsn_or o (synced_lsn old.frames page)) is)
lsn-loaded log below old new page end (Some f) is inside same h =
    ap (λ (v : Pooled). lsn_now v.frames page) same

none_taken : (n : ℕ) → length (take {A = Change} n []) ≡ 0
none_taken zero = refl
none_taken (suc n) = refl

spelled-loaded : (old new : Pooled) (page end p : ℕ) (o : Option Framed)
    → MatchOption o (Loads old new page end) (λ f. new ≡ old)
    → synced_lsn new.frames p ≡ synced_lsn old.frames p
spelled-loaded old new page end p None loads = ap (λ (v : Paged). synced_lsn v p) loads.puts.same
spelled-loaded old new page end p (Some f) same = ap (λ (v : Pooled). synced_lsn v.frames p) same

module _ (log : List Record) (below : ℕ) where
  -- of a resident page of the log: what waits is what the log has above it, and its row is exact
  read-page : (v : Pooled) (page : ℕ) (f : Framed) → page < length v.waits
      → frame_of v.frames page ≡ Some f → IsPoolOf log below v
      → (pending_of v.waits page ≡ changes_above log page f.content.lsn)
      × IsRowOf log page (view_of v page)
  read-page v page f inside framed h =
      let at : IsPageOf log page (Some f) (synced_lsn v.frames page) (entry_of v.dirty page)
      (pending_of v.waits page) (unread_of v.unread page)
      = subst (λ (o : Option Framed). IsPageOf log page o (synced_lsn v.frames page)
      (entry_of v.dirty page) (pending_of v.waits page) (unread_of v.unread page)) framed
      (h.each page inside) in
      let it : IsRead log page (Some f) (synced_lsn v.frames page) (entry_of v.dirty page)
      (pending_of v.waits page)
      = (read-it log page f (synced_lsn v.frames page) (entry_of v.dirty page)
      (pending_of v.waits page) (unread_of v.unread page) at).1 in
      (it.wait, it.row.synced_first.first)

  pub shows_lend : (old new : Pooled) (page end : ℕ) (lease : Leased)
      → Lends old new page end lease → IsPoolOf log below old → IsPoolOf log below new
      → SameLsnsBut page old new → lease.base ≡ page_at log page lease.base.lsn
      → ShowsLend log old page lease new
  shows_lend old new page end lease l h kept others history =
      let same : length new.waits ≡ length old.waits =
      (calm_lends old new page end lease l).0.count in
      let inside : page < length old.waits = some_inside old.waits page l.some in
      let f = l.first.lends.f in
      let lent : Framed =
      lent_frame (record { number = lease.number; count = length lease.batch }) f in
      let is : frame_of new.frames page ≡ Some lent = l.first.lends.sets.frame in
      let it = read-page new page lent (omega (arith, same, inside)) is kept in
      let base : lease.base ≡ f.content = ap (λ (x : Leased). x.base) l.first.lease_is in
      let waits : pending_of new.waits page ≡ pending_of l.loaded.waits page =
      ap (λ (v : Pooled). pending_of v.waits page) l.first.same in
      let rest : pending_of new.waits page ≡ changes_above log page lease.base.lsn =
      it.0 ∙ ap (λ (s : PageState). changes_above log page s.lsn) (sym base) in
      let lent_now : lsn_now new.frames page ≡ f.content.lsn =
      ap (λ (o : Option Framed). lsn_or o (synced_lsn new.frames page)) is in
      let loaded_now : lsn_now l.loaded.frames page ≡ f.content.lsn =
      ap (λ (o : Option Framed). lsn_or o (synced_lsn l.loaded.frames page)) l.first.lends.resident in
      let stays : lsn_now new.frames page ≡ lsn_now old.frames page =
      lent_now ∙ sym loaded_now
      ∙ lsn-loaded log below old l.loaded page end (frame_of old.frames page) refl inside l.resident
      h in
      record {
        resident = ap (λ (o : Option Framed). is_some o) is;
        row = it.1;
        number = ap (λ (x : Leased). x.page) l.first.lease_is;
        base = history;
        at = lent_now ∙ ap (λ (s : PageState). s.lsn) (sym base);
        rest = rest;
        batch = ap (λ (x : Leased). x.batch) l.first.lease_is
            ∙ ap (λ (cs : List Change). take 64 cs) (sym waits ∙ rest);
        fresh = ap (λ (x : Leased). x.done) l.first.lease_is;
        now = λ p lt. elim (cases_eq p page) [
          | inl e ↦ subst (λ (k : ℕ). lsn_now new.frames k ≡ lsn_now old.frames k) (sym e) stays
          | inr ne ↦ others p lt ne
        ];
        synced = λ p. ap (λ (v : Pooled). synced_lsn v.frames p) l.first.same
            ∙ ap (λ (v : Paged). synced_lsn v p) l.first.lends.same
            ∙ spelled-loaded old l.loaded page end p (frame_of old.frames page) l.resident;
      }

  pub shows_give : (old new : Pooled) (lease : Leased) → Gives old new lease
      → IsPoolOf log below new → ShowsGive log old lease new
  shows_give old new lease g kept =
      let page = lease.page in
      let back : PageState = working_of lease in
      let f = g.takes_back.f in
      let same : length new.waits ≡ length old.waits = (calm_gives old new lease g).0.count in
      let inside : page < length old.waits = some_inside old.waits page
      (λ none. omega (
        arith,
        g.is_lease.some,
        none_taken (length lease.batch),
        ap (λ (cs : List Change). length cs) (sym g.outstanding.batch),
        ap (λ (cs : List Change). length (take (length lease.batch) cs)) none,
      )) in
      let is : frame_of new.frames page ≡ Some (returned_frame back f) = g.takes_back.sets.frame in
      let it = read-page new page (returned_frame back f) (omega (arith, same, inside)) is kept in
      record {
        resident = ap (λ (o : Option Framed). is_some o) is;
        row = it.1;
        now = ap (λ (o : Option Framed). lsn_or o (synced_lsn new.frames page)) is;
        content = (framed log below new page (returned_frame back f)
            (omega (arith, same, inside)) is kept).content;
        rest = it.0;
        others = λ other lt ne.
            ap (λ (o : Option Framed). lsn_or o (synced_lsn new.frames other))
            (g.takes_back.sets.others other ne)
            ∙ ap (λ (s : ℕ). lsn_or (frame_of old.frames other) s) (slots other);
        synced = slots;
      }
    where
      slots : (p : ℕ) → synced_lsn new.frames p ≡ synced_lsn old.frames p
      slots p = ap (λ (v : Paged). synced_lsn v p) g.takes_back.same

  pub shows_sync : (old new : Pooled) → SyncsPages old new → IsTrue old.frames.sure
      → IsPoolOf log below old → ShowsSync log old new
  shows_sync old new s sure h =
      let kept : IsPoolOf log below new = keeps_sync_pages log below (Ok tt) old new s tt sure h in
      let waits : length new.waits ≡ length old.waits =
      ap (λ (v : Pooled). length v.waits) s.same in
      let pages : new.frames.pages ≡ old.frames.pages = ap (λ (v : Paged). v.pages) s.syncs.same in
      record {
        synced = λ page lt. synced_is log
            (λ q. written_or (frame_of old.frames q) (synced_lsn old.frames q)) below new.frames
            page (omega (arith, lt, pages, h.paged)) (synced-frames log below old new sure s h);
        row = λ page lt was_read. rec_lsn_first log below new page kept (omega (arith, lt, waits))
            was_read;
        now = λ page lt. lsns_sync log below (Ok tt) old new s tt sure h page lt;
        resident = λ page. ap (λ (o : Option Framed). is_some o) (s.syncs.frames page)
            ∙ still_some (frame_of old.frames page);
      }
    where
      still_some : (o : Option Framed) → is_some (option_map synced_frame o) ≡ is_some o
      still_some None = refl
      still_some (Some f) = refl

pub shows_write : (old new : Pooled) (page : ℕ) (acknowledged : Lsn)
    → Flushes old new page acknowledged → ShowsWrite old new page
shows_write old new page acknowledged f = record {
  written = ap (λ (o : Option Framed). written_or o (synced_lsn new.frames page))
      f.stores.writes.sets.frame
      ∙ sym (ap (λ (o : Option Framed). lsn_or o (synced_lsn new.frames page))
      f.stores.writes.sets.frame);
  now = lsns_flush (Ok tt) old new page acknowledged f tt;
  others = same;
}
  where
    same : (other : ℕ) → other ≢ page → view_of new other ≡ view_of old other
    same other ne =
        let frame : frame_of new.frames other ≡ frame_of old.frames other =
        f.stores.writes.sets.others other ne in
        let synced : synced_lsn new.frames other ≡ synced_lsn old.frames other =
        ap (λ (s : Slot). spelled_lsn (synced_content s)) (f.stores.writes.slots.1 other ne) in
        let row : rec_lsn_of new.dirty other ≡ rec_lsn_of old.dirty other
        = ap (λ (v : Pooled). rec_lsn_of v.dirty other) f.stores.same
        ∙ ap (λ (e : DirtyPage). e.synced)
        (get_or-set_other old.dirty page other
        (after_write (entry_of old.dirty page) (first_lsn (pending_of old.waits page)))
        untouched_page ne) in
        λ j. record {
          resident = is_some (frame j);
          now = lsn_or (frame j) (synced j);
          written =
              written_or (frame j) (synced j);
          synced = synced j;
          row = row j;
        }
