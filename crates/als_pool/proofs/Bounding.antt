-- How far the pages of a pool and what waits for them go, after each call.
use Rattle.std.proofs.Common.{false, ◌≡◌, ◌≢◌, ◌⊎◌, ℕ, ◌+◌, ◌-◌, ◌<◌, ◌≤◌, ◌^◌, List, [], ◌∷◌, ◌++◌, length, replicate, take, drop, Option, Some, None, inl, inr, refl, sym, ap, subst, ◌∙◌, length-set, arith}
use Rattle.std.specs.Prelude.{slice_set, nat_eq, MatchOption, Result, Ok, Err, IfOk, IfErr, OnOk, OnErr}
use Rattle.std.specs.Map.{lookup}
use Rattle.std.specs.Option.{option_map}
use Rattle.std.proofs.lemmas.Bool.{cases_eq}
use Rattle.std.proofs.lemmas.List.{get_or-set_same, get_or-set_other, get_or-replicate, length-replicate, take-append-drop}
use Rattle.als_record.specs.declared.lsn.Lsn.{Lsn}
use Rattle.als_record.specs.declared.change.Change.{Change}
use Rattle.als_record.specs.declared.record.Record.{Record}
use Rattle.als_record.specs.declared.rows.LoggedPage.{LoggedPage}
use Rattle.als_record.specs.LogText.{end_of, IsLog}
use Rattle.als_record.specs.Pages.{change_of, changes_above, lsn_after}
use Rattle.als_record.proofs.PageLaws.{end_of-push, record_len-least, changes_above-each, lsn-fold, lsn_after-last}
use Rattle.als_frames.specs.declared.fault.Fault.{Fault as FramesFault}
use Rattle.als_frames.specs.declared.fault.Fault.TheVariants.{PoolFull as FullFrames, NothingToDo as NoFrame, Device as DiskFailed, Memory as NoRoom, BadPage as NoPage}
use Rattle.als_frames.specs.Frames.{Framed, Paged, frame_of}
use Rattle.als_frames.specs.Images.{lsn_or, synced_lsn}
use Rattle.als_frames.specs.Outcomes.{IsReplaced, synced_frame}
use Rattle.als_page.specs.Changes.{AreNext}
use Rattle.als_page.specs.Changes.{redone_all}
use Rattle.als_dirty.specs.Entries.{entry_of}
use Rattle.als_pool.specs.declared.fault.Fault.{Fault}
use Rattle.als_pool.specs.declared.fault.Fault.TheVariants.{LogBehind, PoolFull, PageLent, NothingToDo, Device, Memory, BadPage, NumbersSpent}
use Rattle.als_pool.specs.Queues.{pending_of, total_waiting, above}
use Rattle.als_pool.specs.Pooled.{Pooled, Held, unread_of, new_pool}
use Rattle.als_pool.specs.Bounds.{WaitsBelow, EndsBelow}
use Rattle.als_pool.specs.Outcomes.{CanRoute, with_change, Loads, Lends, RefusesLend, Gives, Recalls, NotFetched, StoresPage, Flushes, RefusesFlush, SyncsPages, SyncPagesFails, ReadRefused, RefusesPage}
use Rattle.als_pool.specs.Images.{IsPageOf, IsPoolOf, IsQueueOf, QueuesOf}
use Rattle.als_pool.specs.Restart.{row_in, IsOpened, IsUnreadRow, HasRowsFrom}
use Rattle.als_lease.specs.Lease.{Leased}
use Rattle.als_pool.specs.Refusals.{is_lent}
use Rattle.als_pool.proofs.QueueLists.{some_inside}
use Rattle.als_pool.proofs.LeaseSteps.{Marks, Redoes, lends-marks, recalls-marks, gives-redoes}
use Rattle.als_pool.proofs.Waiting.{next-above, next_lower, next_behind, last-above, last-lower, last-append, last-under, next-push}
use Rattle.als_pool.proofs.PageSteps.{change_lsn}
use Rattle.als_pool.proofs.PoolSteps.{reached}
use Rattle.als_pool.proofs.PoolLaws.{next-list, log-start, change_fits}
use Rattle.als_pool.proofs.Keeping.{fetch_refused}
use Rattle.als_pool.proofs.Restarting.{opened-length}

-- ---- one page

-- by equal LSNs of its frame
below-cong : (end page : ℕ) (o o' : Option Framed) (w : List Change) → lsn_or o' 0 ≡ lsn_or o 0 → WaitsBelow end page o w → WaitsBelow end page o' w
below-cong end page o o' w is h = record {
  next = subst (λ (n : ℕ). AreNext page n w) (sym is) h.next;
  last = subst (λ (n : ℕ). lsn_after n w < end) (sym is) h.last;
}

-- it loses its frame
below-gone : (end page : ℕ) (o : Option Framed) (w : List Change) → WaitsBelow end page o w → WaitsBelow end page None w
below-gone end page o w h =
    let low : 0 ≤ lsn_or o 0 = omega arith in
    record { next = next_lower page (lsn_or o 0) 0 w h.next low; last = last-lower (lsn_or o 0) 0 end w low h.last }

-- the first changes that wait are redone
below-redone : (end page : ℕ) (f : Framed) (w front rest : List Change) → w ≡ front ++ rest → WaitsBelow end page (Some f) w
    → WaitsBelow end page (Some (record f { content = redone_all f.content front; lent = None })) rest
below-redone end page f w front rest is h =
    let at : lsn_after f.content.lsn front ≡ (redone_all f.content front).lsn = sym (lsn-fold f.content front) in
    record {
      next = subst (λ (n : ℕ). AreNext page n rest) at (next_behind page f.content.lsn front rest (subst (λ (cs : List Change). AreNext page f.content.lsn cs) is h.next));
      last = subst (λ (n : ℕ). lsn_after n rest < end) at (omega (arith, h.last, ap (λ (cs : List Change). lsn_after f.content.lsn cs) is, last-append f.content.lsn front rest));
    }

-- what waits are changes of a log
below-log : (pages : ℕ) (log : List Record) (page low : ℕ) (o : Option Framed) (w : List Change) → IsLog pages log → w ≡ changes_above log page low → lsn_or o 0 ≤ low → lsn_or o 0 < end_of log → WaitsBelow (end_of log) page o w
below-log pages log page low o w is_log is le lt = record {
  next = next_lower page low (lsn_or o 0) w (next-list pages log page low w is_log (sym is)) le;
  last = subst (λ (cs : List Change). lsn_after (lsn_or o 0) cs < end_of log) (sym is) (last-under page low (lsn_or o 0) (end_of log) (changes_above log page low) (changes_above-each log page low is_log.laid_out) lt);
}

-- ---- all pages

-- each page's frame has the LSN that it had
ends-lsns : (end : ℕ) (old new : Pooled) → new.frames.pages ≡ old.frames.pages → new.waits ≡ old.waits → ((p : ℕ) → lsn_or (frame_of new.frames p) 0 ≡ lsn_or (frame_of old.frames p) 0) → EndsBelow end old → EndsBelow end new
ends-lsns end old new pages waits same h = record {
  paged = pages ∙ h.paged ∙ sym (ap (λ (ws : List (List Change)). length ws) waits);
  each = λ page lt. subst (λ (ws : List (List Change)). WaitsBelow end page (frame_of new.frames page) (pending_of ws page)) (sym waits)
      (below-cong end page (frame_of old.frames page) (frame_of new.frames page) (pending_of old.waits page) (same page)
      (h.each page (omega (arith, lt, ap (λ (ws : List (List Change)). length ws) waits))));
}

ends-same : (end : ℕ) (old new : Pooled) → new ≡ old → EndsBelow end old → EndsBelow end new
ends-same end old new is h = subst (λ (v : Pooled). EndsBelow end v) (sym is) h

-- the frames alone have changed, and no page's
ends-frames : (end : ℕ) (old new : Pooled) → new ≡ record old { frames = new.frames } → new.frames.pages ≡ old.frames.pages → ((p : ℕ) → frame_of new.frames p ≡ frame_of old.frames p) → EndsBelow end old → EndsBelow end new
ends-frames end old new is pages same h = ends-lsns end old new pages (ap (λ (v : Pooled). v.waits) is) (λ p. ap (λ (o : Option Framed). lsn_or o 0) (same p)) h

-- the queue of a page becomes another one
ends-set : (end more : ℕ) (old new : Pooled) (page : ℕ) (w : List Change) → page < length old.waits → new.frames.pages ≡ old.frames.pages → new.waits ≡ slice_set old.waits page w
    → WaitsBelow more page (frame_of new.frames page) w → ((other : ℕ) → other < length old.waits → other ≢ page → WaitsBelow more other (frame_of new.frames other) (pending_of old.waits other))
    → EndsBelow end old → EndsBelow more new
ends-set end more old new page w inside pages is here others h =
    let len : length new.waits ≡ length old.waits = ap (λ (ws : List (List Change)). length ws) is ∙ length-set old.waits page w in
    record {
      paged = pages ∙ h.paged ∙ sym len;
      each = λ p lt. subst (λ (ws : List (List Change)). WaitsBelow more p (frame_of new.frames p) (pending_of ws p)) (sym is) (elim (cases_eq p page) [
        | inl same ↦
            subst (λ (k : ℕ). WaitsBelow more k (frame_of new.frames k) (pending_of (slice_set old.waits page w) k)) (sym same)
            (subst (λ (x : List Change). WaitsBelow more page (frame_of new.frames page) x) (sym (get_or-set_same old.waits page w [] inside)) here)
        | inr ne ↦
            subst (λ (x : List Change). WaitsBelow more p (frame_of new.frames p) x) (sym (get_or-set_other old.waits page p w [] ne)) (others p (omega (arith, lt, len)) ne)
      ]);
    }

pub ends-more : (end more : ℕ) (v : Pooled) → end ≤ more → EndsBelow end v → EndsBelow more v
ends-more end more v le h = record { paged = h.paged; each = λ page lt. record { next = (h.each page lt).next; last = omega (arith, le, (h.each page lt).last) } }

-- no page has a frame, and nothing waits
ends-empty : (end : ℕ) (v : Pooled) → v.frames.pages ≡ length v.waits → ((page : ℕ) → page < length v.waits → (frame_of v.frames page ≡ None) × (pending_of v.waits page ≡ [])) → 0 < end → EndsBelow end v
ends-empty end v paged none lt = record { paged = paged; each = λ page inside. one page (none page inside) }
  where
    one : (page : ℕ) → (frame_of v.frames page ≡ None) × (pending_of v.waits page ≡ []) → WaitsBelow end page (frame_of v.frames page) (pending_of v.waits page)
    one page is =
        let it : WaitsBelow end page None [] = record { next = tt; last = lt } in
        subst (λ (o : Option Framed). WaitsBelow end page o (pending_of v.waits page)) (sym is.0) (subst (λ (w : List Change). WaitsBelow end page None w) (sym is.1) it)

no-frame : (v : Paged) (p : ℕ) → v.frames ≡ [] → frame_of v p ≡ None
no-frame v p none = ap (λ (fs : List (ℕ × Framed)). lookup (nat_eq p) fs) none

pub ends-new : (end : ℕ) (frames : Paged) (pages first : ℕ) → frames.pages ≡ pages → frames.frames ≡ [] → 0 < end → EndsBelow end (new_pool frames pages first)
ends-new end frames pages first count none lt =
    let len : length (replicate {A = List Change} pages []) ≡ pages = length-replicate pages [] in
    ends-empty end (new_pool frames pages first) (count ∙ sym len) (λ page inside. (no-frame frames page none, get_or-replicate {A = List Change} pages page [] [] (omega (arith, inside, len)))) lt

pub ends-opened : (end : ℕ) (stored : Paged) (position : Lsn) (rows : List LoggedPage) (v : Pooled) → IsOpened stored position rows v → stored.frames ≡ [] → 0 < end → EndsBelow end v
ends-opened end stored position rows v h none lt =
    let len : length v.waits ≡ stored.pages = opened-length stored position rows v h in
    ends-empty end v (ap (λ (f : Paged). f.pages) h.frames ∙ sym len) (λ page inside. (
      ap (λ (f : Paged). frame_of f page) h.frames ∙ no-frame stored page none,
      ap (λ (ws : List (List Change)). pending_of ws page) h.waits ∙ get_or-replicate {A = List Change} stored.pages page [] [] (omega (arith, inside, len)),
    )) lt

-- ---- a pool of a log

lsn-low : (o : Option Framed) (s : ℕ) → lsn_or o 0 ≤ lsn_or o s
lsn-low None s = omega arith
lsn-low (Some f) s = omega arith

ends-page : (pages : ℕ) (log : List Record) (page s : ℕ) (o : Option Framed) (v : Pooled) (w : List Change) (u : Option Lsn) → IsLog pages log → lsn_or o s < end_of log
    → IsPageOf log page o s (entry_of v.dirty page) w u → WaitsBelow (end_of log) page o w
ends-page pages log page s o v w None is_log lt h = below-log pages log page (lsn_or o s) o w is_log h.wait (lsn-low o s) (omega (arith, lt, lsn-low o s))
ends-page pages log page s o v w (Some from) is_log lt h =
    below-log pages log page (from.0 - 1) o w is_log h.wait (omega (arith, ap (λ (x : Option Framed). lsn_or x 0) h.absent)) (omega (arith, lt, lsn-low o s))

pub ends-of : (log : List Record) (below : ℕ) (v : Pooled) → IsPoolOf log below v → EndsBelow (end_of log) v
ends-of log below v h = record {
  paged = h.paged;
  each = λ page lt. ends-page v.frames.pages log page (synced_lsn v.frames page) (frame_of v.frames page) v (pending_of v.waits page) (unread_of v.unread page) h.frames.is_log (reached log below v page lt h).1 (h.each page lt);
}

ends-queue : (pages : ℕ) (log : List Record) (position : Lsn) (given : Option Lsn) (page : ℕ) (o : Option Framed) (v : Pooled) (w : List Change) (u : Option Lsn) → IsLog pages log
    → MatchOption u (Unit {0}) (λ from. IsUnreadRow position given o (entry_of v.dirty page) w from) → MatchOption u ⊥ (λ from. IsQueueOf log page (entry_of v.dirty page) w from) → WaitsBelow (end_of log) page o w
ends-queue pages log position given page o v w None is_log row queue = absurd queue
ends-queue pages log position given page o v w (Some from) is_log row queue =
    let none : lsn_or o 0 ≡ 0 = ap (λ (x : Option Framed). lsn_or x 0) row.absent in
    below-log pages log page (from.0 - 1) o w is_log queue.wait (omega (arith, none)) (omega (arith, none, log-start log))

-- while a log is read at a restart
pub ends-reads : (log : List Record) (position : Lsn) (rows : List LoggedPage) (v : Pooled) → IsLog v.frames.pages log → HasRowsFrom position rows v → QueuesOf log v → EndsBelow (end_of log) v
ends-reads log position rows v is_log h queues = record {
  paged = h.paged;
  each = λ page lt. ends-queue v.frames.pages log position (row_in rows page) page (frame_of v.frames page) v (pending_of v.waits page) (unread_of v.unread page) is_log (h.each page lt) (queues.each page lt);
}

-- ---- a record more

longer : (log : List Record) (r : Record) → end_of log < end_of (log ++ r ∷ [])
longer log r = omega (arith, end_of-push log r, record_len-least r)

pub ends-other : (log : List Record) (r : Record) (v : Pooled) → EndsBelow (end_of log) v → EndsBelow (end_of (log ++ r ∷ [])) v
ends-other log r v h = ends-more (end_of log) (end_of (log ++ r ∷ [])) v (omega (arith, longer log r)) h

pub can_follow : (log : List Record) (v : Pooled) (r : Record) (c : Change) → EndsBelow (end_of log) v → IsLog v.frames.pages (log ++ r ∷ []) → r.lsn.0 ≡ end_of log
    → change_of r ≡ Some c → total_waiting v.waits + 1 < 2 ^ 64 → CanRoute v c
can_follow log v r c h is_log at is count =
    let fits = change_fits v.frames.pages log r c is_log at is in
    let inside : c.key.page < length v.waits = omega (arith, fits.key.page, h.paged) in
    let place : c.lsn.0 ≡ end_of log = ap (λ (l : Lsn). l.0) (change_lsn r c is) ∙ at in
    let here = h.each c.key.page inside in
    record {
      in_range = inside;
      next = next-push c.key.page (lsn_or (frame_of v.frames c.key.page) 0) (pending_of v.waits c.key.page) c here.next refl fits.key.slot (omega (arith, place, log-start log)) (omega (arith, here.last, place));
      count = count;
    }

pub ends-route : (log : List Record) (r : Record) (v : Pooled) (c : Change) → CanRoute v c → EndsBelow (end_of log) v → r.lsn.0 ≡ end_of log → change_of r ≡ Some c → EndsBelow (end_of (log ++ r ∷ [])) (with_change v c)
ends-route log r v c can h at is =
    let w : List Change = pending_of v.waits c.key.page in
    let place : c.lsn.0 ≡ end_of log = ap (λ (l : Lsn). l.0) (change_lsn r c is) ∙ at in
    ends-set (end_of log) (end_of (log ++ r ∷ [])) v (with_change v c) c.key.page (w ++ c ∷ []) can.in_range refl refl
    (record { next = can.next; last = omega (arith, lsn_after-last (lsn_or (frame_of v.frames c.key.page) 0) w c, place, longer log r) })
    (λ p lt ne. record { next = (h.each p lt).next; last = omega (arith, (h.each p lt).last, longer log r) }) h

-- ---- leases

module _ (limit : ℕ) where
  other-frame : (p : ℕ) (o o' : Option Framed) (w : List Change) → (o' ≡ o) ⊎ IsReplaced o o' → WaitsBelow limit p o w → WaitsBelow limit p o' w
  other-frame p o o' w (inl same) h = subst (λ (x : Option Framed). WaitsBelow limit p x w) (sym same) h
  other-frame p o o' w (inr gone) h = subst (λ (x : Option Framed). WaitsBelow limit p x w) (sym gone.3) (below-gone limit p o w h)

  ends-loads : (old new : Pooled) (page end : ℕ) → page < length old.waits → end ≤ limit → Loads old new page end → EndsBelow limit old → EndsBelow limit new
  ends-loads old new page end inside le loads h =
      let w : List Change = pending_of old.waits page in
      let lsn : ℕ = loads.content.lsn in
      let low : ℕ = lsn_or (frame_of old.frames page) 0 in
      let here = h.each page inside in
      let lt : lsn < limit = omega (arith, loads.fetched.below, le) in
      ends-set limit limit old new page (above lsn w) inside (ap (λ (v : Paged). v.pages) loads.puts.same) (ap (λ (v : Pooled). v.waits) loads.same)
      (subst (λ (o : Option Framed). WaitsBelow limit page o (above lsn w)) (sym loads.puts.frame) (record { next = next-above page low lsn w here.next; last = last-above page low lsn limit w here.next lt here.last }))
      (λ p lt' ne. other-frame p (frame_of old.frames p) (frame_of new.frames p) (pending_of old.waits p) (loads.puts.others p ne) (h.each p lt')) h

  ends-resident : (old new : Pooled) (page end : ℕ) (o : Option Framed) → page < length old.waits → end ≤ limit → MatchOption o (Loads old new page end) (λ f. new ≡ old) → EndsBelow limit old → EndsBelow limit new
  ends-resident old new page end None inside le made h = ends-loads old new page end inside le made h
  ends-resident old new page end (Some f) inside le made h = ends-same limit old new made h

  ends-redoes : (old new : Pooled) (page count : ℕ) → Redoes old new page count → EndsBelow limit old → EndsBelow limit new
  ends-redoes old new page count done h =
      let w : List Change = pending_of old.waits page in
      let f : Framed = done.f in
      let here : WaitsBelow limit page (Some f) w = subst (λ (o : Option Framed). WaitsBelow limit page o w) done.resident (h.each page done.inside) in
      ends-set limit limit old new page (drop count w) done.inside (ap (λ (v : Paged). v.pages) done.framed) (ap (λ (v : Pooled). v.waits) done.same)
      (subst (λ (o : Option Framed). WaitsBelow limit page o (drop count w)) (sym done.sets.frame) (below-redone limit page f w (take count w) (drop count w) (sym (take-append-drop count w)) here))
      (λ p lt ne. subst (λ (o : Option Framed). WaitsBelow limit p o (pending_of old.waits p)) (sym (done.sets.others p ne)) (h.each p lt)) h

  ends-marks : (old new : Pooled) (page : ℕ) → Marks old new page → EndsBelow limit old → EndsBelow limit new
  ends-marks old new page done h = ends-lsns limit old new (ap (λ (v : Paged). v.pages) done.framed) (ap (λ (v : Pooled). v.waits) done.same) same h
    where
      same : (p : ℕ) → lsn_or (frame_of new.frames p) 0 ≡ lsn_or (frame_of old.frames p) 0
      same p = elim (cases_eq p page) [
        | inl is ↦ subst (λ (k : ℕ). lsn_or (frame_of new.frames k) 0 ≡ lsn_or (frame_of old.frames k) 0) (sym is)
            (ap (λ (o : Option Framed). lsn_or o 0) done.sets.frame ∙ ap (λ (o : Option Framed). lsn_or o 0) (sym done.resident))
        | inr ne ↦ ap (λ (o : Option Framed). lsn_or o 0) (done.sets.others p ne)
      ]

  ends-not_fetched : (e : FramesFault) (old new : Pooled) (page end : ℕ) → NotFetched e old new page end → EndsBelow limit old → EndsBelow limit new
  ends-not_fetched e old new page end fails h = let same = fetch_refused e old.frames new.frames page end fails.refuses in ends-frames limit old new fails.same same.0 same.1 h

  ends-refused_lend : (e : Fault) (old new : Held) (page end : ℕ) → end ≤ limit → RefusesLend e old new page end → EndsBelow limit old.pool → EndsBelow limit new.pool
  ends-refused_lend PageLent old new page end le r h = ends-same limit old.pool new.pool (ap (λ (v : Held). v.pool) r.1) h
  ends-refused_lend NothingToDo old new page end le (inl r) h = ends-same limit old.pool new.pool (ap (λ (v : Held). v.pool) r.2) h
  ends-refused_lend NothingToDo old new page end le (inr r) h = ends-loads old.pool new.pool page end (some_inside old.pool.waits page r.1.some) le r.1.loads h
  ends-refused_lend NumbersSpent old new page end le r h = ends-same limit old.pool new.pool (ap (λ (v : Held). v.pool) r.3) h
  ends-refused_lend PoolFull old new page end le r h = ends-not_fetched FullFrames old.pool new.pool page end r.1 h
  ends-refused_lend Device old new page end le r h = ends-not_fetched DiskFailed old.pool new.pool page end r.1 h
  ends-refused_lend Memory old new page end le r h = ends-same limit old.pool new.pool r.1.same h
  ends-refused_lend (BadPage p) old new page end le r h = ends-not_fetched (NoPage p) old.pool new.pool page end r.1 h
  ends-refused_lend LogBehind old new page end le r h = absurd r

  pub ends-lend : (r : Result Leased Fault) (old new : Held) (page end : ℕ) → end ≤ limit → IfOk r (λ lease. Lends old.pool new.pool page end lease) → IfErr r (λ e. RefusesLend e old new page end)
      → EndsBelow limit old.pool → EndsBelow limit new.pool
  ends-lend (Ok lease) old new page end le ok err h =
      ends-marks ok.loaded new.pool page (lends-marks ok.loaded new.pool page lease ok.first)
      (ends-resident old.pool ok.loaded page end (frame_of old.pool.frames page) (some_inside old.pool.waits page ok.some) le ok.resident h)
  ends-lend (Err e) old new page end le ok err h = ends-refused_lend e old new page end le err h

  pub ends-give : (r : Result (Unit {0}) Leased) (old new : Held) (lease : Leased) → OnOk r (Gives old.pool new.pool lease) → IfErr r (λ l. (l ≡ lease) × (new ≡ old))
      → EndsBelow limit old.pool → EndsBelow limit new.pool
  ends-give (Ok x) old new lease ok err h = ends-redoes old.pool new.pool lease.page lease.done (gives-redoes old.pool new.pool lease ok) h
  ends-give (Err l) old new lease ok err h = ends-same limit old.pool new.pool (ap (λ (v : Held). v.pool) err.1) h

  pub ends-recall : (r : Result (Unit {0}) Fault) (old new : Held) (page : ℕ) → OnOk r (Recalls old.pool new.pool page) → IfErr r (λ e. (e ≡ NothingToDo) × (is_lent old.pool page ≡ false) × (new ≡ old))
      → EndsBelow limit old.pool → EndsBelow limit new.pool
  ends-recall (Ok x) old new page ok err h = ends-marks old.pool new.pool page (recalls-marks old.pool new.pool page ok) h
  ends-recall (Err e) old new page ok err h = ends-same limit old.pool new.pool (ap (λ (v : Held). v.pool) err.2) h

  -- ---- images

  ends-stores : (old new : Pooled) (page : ℕ) (lsn : Lsn) → StoresPage old new page lsn → EndsBelow limit old → EndsBelow limit new
  ends-stores old new page lsn done h = ends-lsns limit old new (ap (λ (v : Paged). v.pages) done.writes.same) (ap (λ (v : Pooled). v.waits) done.same) same h
    where
      same : (p : ℕ) → lsn_or (frame_of new.frames p) 0 ≡ lsn_or (frame_of old.frames p) 0
      same p = elim (cases_eq p page) [
        | inl is ↦ subst (λ (k : ℕ). lsn_or (frame_of new.frames k) 0 ≡ lsn_or (frame_of old.frames k) 0) (sym is)
            (ap (λ (o : Option Framed). lsn_or o 0) done.writes.sets.frame ∙ ap (λ (o : Option Framed). lsn_or o 0) (sym done.writes.due.resident))
        | inr ne ↦ ap (λ (o : Option Framed). lsn_or o 0) (done.writes.sets.others p ne)
      ]

  ends-refused_flush : (e : Fault) (old new : Pooled) (page : ℕ) (acknowledged : Lsn) → RefusesFlush e old new page acknowledged → EndsBelow limit old → EndsBelow limit new
  ends-refused_flush PageLent old new page acknowledged r h = ends-same limit old new r.1 h
  ends-refused_flush NumbersSpent old new page acknowledged r h = absurd r
  ends-refused_flush NothingToDo old new page acknowledged r h = ends-same limit old new r.2 h
  ends-refused_flush LogBehind old new page acknowledged r h = ends-same limit old new r.2 h
  ends-refused_flush Device old new page acknowledged r h = ends-frames limit old new r.1.same (ap (λ (v : Paged). v.pages) r.1.fails.same) (λ p. ap (λ (v : Paged). frame_of v p) r.1.fails.same) h
  ends-refused_flush PoolFull old new page acknowledged r h = absurd r
  ends-refused_flush Memory old new page acknowledged r h = absurd r
  ends-refused_flush (BadPage p) old new page acknowledged r h = absurd r

  pub ends-flush : (r : Result (Unit {0}) Fault) (old new : Pooled) (page : ℕ) (acknowledged : Lsn) → OnOk r (Flushes old new page acknowledged) → IfErr r (λ e. RefusesFlush e old new page acknowledged)
      → EndsBelow limit old → EndsBelow limit new
  ends-flush (Ok x) old new page acknowledged ok err h = ends-stores old new page ok.lsn ok.stores h
  ends-flush (Err e) old new page acknowledged ok err h = ends-refused_flush e old new page acknowledged err h

  same-synced : (o : Option Framed) → lsn_or (option_map synced_frame o) 0 ≡ lsn_or o 0
  same-synced None = refl
  same-synced (Some f) = refl

  pub ends-sync : (r : Result (Unit {0}) Fault) (old new : Pooled) → OnOk r (SyncsPages old new) → OnErr r (SyncPagesFails old new) → EndsBelow limit old → EndsBelow limit new
  ends-sync (Ok x) old new ok err h =
      ends-lsns limit old new (ap (λ (v : Paged). v.pages) ok.syncs.same) (ap (λ (v : Pooled). v.waits) ok.same)
      (λ p. ap (λ (o : Option Framed). lsn_or o 0) (ok.syncs.frames p) ∙ same-synced (frame_of old.frames p)) h
  ends-sync (Err e) old new ok err h = ends-frames limit old new err.same (ap (λ (v : Paged). v.pages) err.fails.same) (λ p. ap (λ (v : Paged). frame_of v p) err.fails.same) h

  -- ---- queries

  ends-read : (e : FramesFault) (old new : Pooled) (page : ℕ) → ReadRefused e old new page → EndsBelow limit old → EndsBelow limit new
  ends-read DiskFailed old new page r h = ends-frames limit old new r.same (ap (λ (v : Paged). v.pages) r.refuses.same) (λ p. ap (λ (v : Paged). frame_of v p) r.refuses.same) h
  ends-read (NoPage q) old new page r h = ends-frames limit old new r.same (ap (λ (v : Paged). v.pages) r.refuses.2) (λ p. ap (λ (v : Paged). frame_of v p) r.refuses.2) h
  ends-read FullFrames old new page r h = absurd r.refuses
  ends-read NoRoom old new page r h = absurd r.refuses
  ends-read NoFrame old new page r h = absurd r.refuses

  ends-refused_page : (e : Fault) (old new : Pooled) (page : ℕ) → RefusesPage e old new page → EndsBelow limit old → EndsBelow limit new
  ends-refused_page Device old new page r h = ends-read DiskFailed old new page r h
  ends-refused_page (BadPage p) old new page r h = ends-read (NoPage p) old new page r h
  ends-refused_page LogBehind old new page r h = absurd r
  ends-refused_page PageLent old new page r h = absurd r
  ends-refused_page NumbersSpent old new page r h = absurd r
  ends-refused_page PoolFull old new page r h = absurd r
  ends-refused_page NothingToDo old new page r h = absurd r
  ends-refused_page Memory old new page r h = absurd r

  pub ends-page_now : {T : Type 0} (r : Result T Fault) (old new : Held) (page : ℕ) → OnOk r (new ≡ old) → IfErr r (λ e. RefusesPage e old.pool new.pool page) → EndsBelow limit old.pool → EndsBelow limit new.pool
  ends-page_now (Ok x) old new page ok err h = ends-same limit old.pool new.pool (ap (λ (v : Held). v.pool) ok) h
  ends-page_now (Err e) old new page ok err h = ends-refused_page e old.pool new.pool page err h
