-- What each call leaves of the pool, for a log.
use Rattle.std.proofs.Common.{◌≡◌, ◌⊎◌, ℕ, ◌<◌, List, [], ◌∷◌, ◌++◌, length, replicate, map, take, drop, Option, Some, None, inl, inr, refl, sym, ap, subst, ◌∙◌, length-set, arith}
use Rattle.std.specs.Prelude.{slice_set, nat_eq}
use Rattle.std.specs.Map.{lookup}
use Rattle.std.specs.Option.{option_map}
use Rattle.std.proofs.lemmas.Bool.{cases_eq}
use Rattle.std.proofs.lemmas.List.{get_or-set_same, get_or-set_other, get_or-map, get_or-replicate, length-map, length-replicate, take-append-drop}
use Rattle.als_record.specs.declared.lsn.Lsn.{Lsn}
use Rattle.als_record.specs.declared.change.Change.{Change}
use Rattle.als_record.specs.declared.record.Record.{Record}
use Rattle.als_record.specs.LogText.{end_of}
use Rattle.als_record.specs.Pages.{PageState, page_at, change_of}
use Rattle.als_record.proofs.LogLaws.{end_of_is}
use Rattle.als_record.proofs.PageLaws.{changes_on-none, changes_on-other, changes_above-nil}
use Rattle.als_frames.specs.Frames.{Framed, Paged, frame_of, slot_of}
use Rattle.als_frames.specs.Images.{synced_lsn, lsn_or, written_or, IsFramedAt, IsStoredAt, IsPageAt, AreFramesOf}
use Rattle.als_frames.specs.Outcomes.{IsReplaced, synced_frame}
use Rattle.als_page.specs.Changes.{redone_all}
use Rattle.als_frames.proofs.Keeping.{synced_is}
use Rattle.als_dirty.specs.declared.dirty_page.DirtyPage.{DirtyPage}
use Rattle.als_dirty.specs.Entries.{untouched_page, entry_of, after_record, after_write, after_sync, after_load}
use Rattle.als_dirty.specs.Images.{first_lsn}
use Rattle.als_dirty.proofs.TableSteps.{page-load}
use Rattle.als_pool.specs.Queues.{pending_of, above}
use Rattle.als_pool.specs.Pooled.{Pooled, unread_of, new_pool}
use Rattle.als_pool.specs.Outcomes.{with_change, Loads, IsDueAt, StoresPage, SyncsPages}
use Rattle.als_pool.specs.Images.{IsPageOf, IsPooledPageOf, IsPoolOf}
use Rattle.als_pool.proofs.LeaseSteps.{Marks, Redoes}
use Rattle.als_pool.proofs.PageSteps.{page-cong, pushed, passed, redone-page, marked-page, stored-page, synced-page, loaded-page, replaced-page}

-- the same pages, by another function of the page_LSNs last synced
pub frames-cong : (log : List Record) (s s' : ℕ → ℕ) (below : ℕ) (v : Paged) → ((p : ℕ) → p < v.pages → s p ≡ s' p) → AreFramesOf log s below v → AreFramesOf log s' below v
frames-cong log s s' below v same h = record {
  is_log = h.is_log;
  each = λ p lt. subst (λ (n : ℕ). IsPageAt log p below n v.sure (slot_of v p) (frame_of v p)) (same p lt) (h.each p lt);
}

-- by what their blocks spell
pub respelled : (log : List Record) (s : ℕ → ℕ) (below : ℕ) (v : Paged) → AreFramesOf log s below v → AreFramesOf log (synced_lsn v) below v
respelled log s below v h = frames-cong log s (synced_lsn v) below v (λ p lt. sym (synced_is log s below v p lt h)) h

-- the page_LSNs that a page's images last synced, and the page as it is now, have are ones that the log has reached
module _ (log : List Record) (below : ℕ) where
  at-reached : (p s : ℕ) (v : Paged) (o : Option Framed) → IsPageAt log p below s v.sure (slot_of v p) o → (s < end_of log) × (lsn_or o s < end_of log)
  at-reached p s v None h = (h.stable.inside, h.stable.inside)
  at-reached p s v (Some f) h = (h.last.inside, h.inside)

  pub reached : (v : Pooled) (p : ℕ) → p < length v.waits → IsPoolOf log below v → (synced_lsn v.frames p < end_of log) × (lsn_or (frame_of v.frames p) (synced_lsn v.frames p) < end_of log)
  reached v p lt h = at-reached p (synced_lsn v.frames p) v.frames (frame_of v.frames p) (h.frames.each p (omega (arith, lt, h.paged)))

  -- a page in a frame, as the log has it
  pub framed : (v : Pooled) (p : ℕ) (f : Framed) → p < length v.waits → frame_of v.frames p ≡ Some f → IsPoolOf log below v
      → IsFramedAt log p below (synced_lsn v.frames p) v.frames.sure (slot_of v.frames p) f
  framed v p f lt is h =
      let lt' : p < v.frames.pages = omega (arith, lt, h.paged) in
      subst (IsPageAt log p below (synced_lsn v.frames p) v.frames.sure (slot_of v.frames p)) is (h.frames.each p lt')

  -- a page that was not touched by a call
  pub same-page : (old : Pooled) (frames : Paged) (p : ℕ) → frame_of frames p ≡ frame_of old.frames p → synced_lsn frames p ≡ synced_lsn old.frames p → IsPooledPageOf log old p
      → IsPageOf log p (frame_of frames p) (synced_lsn frames p) (entry_of old.dirty p) (pending_of old.waits p) (unread_of old.unread p)
  same-page old frames p fe se h =
      page-cong log p (frame_of old.frames p) (frame_of frames p) (synced_lsn old.frames p) (synced_lsn frames p) (entry_of old.dirty p) (entry_of old.dirty p) (pending_of old.waits p) (pending_of old.waits p)
      (unread_of old.unread p) (unread_of old.unread p) fe se refl refl refl h

  -- no frame has changed
  pub pool-frames : (old : Pooled) (frames : Paged) → AreFramesOf log (synced_lsn old.frames) below frames → frames.pages ≡ old.frames.pages
      → ((p : ℕ) → frame_of frames p ≡ frame_of old.frames p) → IsPoolOf log below old → IsPoolOf log below (record old { frames = frames })
  pool-frames old frames are pages same h = record {
    paged = pages ∙ h.paged;
    tabled = h.tabled;
    told = h.told;
    frames = respelled log (synced_lsn old.frames) below frames are;
    each = λ p lt. same-page old frames p (same p) (synced_is log (synced_lsn old.frames) below frames p (omega (arith, lt, pages, h.paged)) are) (h.each p lt);
  }

  -- a page is read in
  pub pool-loads : (old new : Pooled) (page end : ℕ) → page < length old.waits → (loads : Loads old new page end) → loads.content ≡ page_at log page (synced_lsn old.frames page)
      → AreFramesOf log (synced_lsn old.frames) below new.frames → IsPoolOf log below old → IsPoolOf log below new
  pool-loads old new page end inside loads is are h = subst (λ (v : Pooled). IsPoolOf log below v) (sym loads.same) (record {
    paged = pages ∙ h.paged ∙ sym (length-set old.waits page left);
    tabled = length-set old.dirty page (after_load (first_lsn left)) ∙ h.tabled ∙ sym (length-set old.waits page left);
    told = length-set old.unread page None ∙ h.told ∙ sym (length-set old.waits page left);
    frames = respelled log (synced_lsn old.frames) below new.frames are;
    each = λ p lt. at p (omega (arith, length-set old.waits page left, lt));
  })
    where
      left : List Change
      left = above loads.content.lsn (pending_of old.waits page)

      pages : new.frames.pages ≡ old.frames.pages
      pages = ap (λ (v : Paged). v.pages) loads.puts.same

      spelled : (p : ℕ) → synced_lsn new.frames p ≡ synced_lsn old.frames p
      spelled p = ap (λ (v : Paged). synced_lsn v p) loads.puts.same

      lsn : loads.content.lsn ≡ synced_lsn old.frames page
      lsn =
          let stored : IsStoredAt log page below (synced_lsn old.frames page) (slot_of old.frames page)
          = subst (IsPageAt log page below (synced_lsn old.frames page) old.frames.sure (slot_of old.frames page)) loads.absent (h.frames.each page (omega (arith, inside, h.paged))) in
          ap (λ (s : PageState). s.lsn) is ∙ stored.stable.own

      other : (p : ℕ) → p < length old.waits → (frame_of new.frames p ≡ frame_of old.frames p) ⊎ IsReplaced (frame_of old.frames p) (frame_of new.frames p)
          → IsPageOf log p (frame_of new.frames p) (synced_lsn new.frames p) (entry_of old.dirty p) (pending_of old.waits p) (unread_of old.unread p)
      other p lt (inl same) = same-page old new.frames p same (spelled p) (h.each p lt)
      other p lt (inr (f, was, clean, gone)) =
          let f-at = framed old p f lt was h in
          let before : IsPageOf log p (Some f) (synced_lsn old.frames p) (entry_of old.dirty p) (pending_of old.waits p) (unread_of old.unread p)
          = subst (λ (o : Option Framed). IsPageOf log p o (synced_lsn old.frames p) (entry_of old.dirty p) (pending_of old.waits p) (unread_of old.unread p)) was (h.each p lt) in
          page-cong log p None (frame_of new.frames p) (synced_lsn old.frames p) (synced_lsn new.frames p) (entry_of old.dirty p) (entry_of old.dirty p) (pending_of old.waits p) (pending_of old.waits p)
          (unread_of old.unread p) (unread_of old.unread p) gone (spelled p) refl refl refl
          (replaced-page log p f (synced_lsn old.frames p) (entry_of old.dirty p) (pending_of old.waits p) (unread_of old.unread p)
          (omega (arith, f-at.synced_is, f-at.from, f-at.order, clean.0)) (omega (arith, f-at.synced_is, clean.0)) before)

      e' : DirtyPage
      e' = after_load (first_lsn left)

      at : (p : ℕ) → p < length old.waits
          → IsPageOf log p (frame_of new.frames p) (synced_lsn new.frames p) (entry_of (slice_set old.dirty page e') p) (pending_of (slice_set old.waits page left) p) (unread_of (slice_set old.unread page None) p)
      at p lt =
          elim (cases_eq p page) [
            | inl same ↦
                let inside' : page < length old.dirty = omega (arith, inside, h.tabled) in
                let inside'' : page < length old.unread = omega (arith, inside, h.told) in
                subst (λ (k : ℕ). IsPageOf log k (frame_of new.frames k) (synced_lsn new.frames k) (entry_of (slice_set old.dirty page e') k) (pending_of (slice_set old.waits page left) k) (unread_of (slice_set old.unread page None) k)) (sym same)
                (page-cong log page _ (frame_of new.frames page) (synced_lsn old.frames page) (synced_lsn new.frames page) e' (entry_of (slice_set old.dirty page e') page) left (pending_of (slice_set old.waits page left) page)
                None (unread_of (slice_set old.unread page None) page) loads.puts.frame (spelled page) (get_or-set_same old.dirty page e' untouched_page inside') (get_or-set_same old.waits page left [] inside)
                (get_or-set_same {A = Option Lsn} old.unread page None None inside'')
                (loaded-page log page (frame_of old.frames page) (synced_lsn old.frames page) (entry_of old.dirty page) (pending_of old.waits page) (unread_of old.unread page) loads.content loads.absent lsn
                (reached old page inside h).0 (h.each page inside)))
            | inr ne ↦
                page-cong log p (frame_of new.frames p) (frame_of new.frames p) (synced_lsn new.frames p) (synced_lsn new.frames p) (entry_of old.dirty p) (entry_of (slice_set old.dirty page e') p)
                (pending_of old.waits p) (pending_of (slice_set old.waits page left) p) (unread_of old.unread p) (unread_of (slice_set old.unread page None) p) refl refl
                (get_or-set_other old.dirty page p e' untouched_page ne) (get_or-set_other old.waits page p left [] ne) (get_or-set_other {A = Option Lsn} old.unread page p None None ne)
                (other p lt (loads.puts.others p ne))
          ]

  -- the first changes that wait for a page are redone
  pub pool-redoes : (old new : Pooled) (page count : ℕ) → Redoes old new page count → AreFramesOf log (synced_lsn old.frames) below new.frames → IsPoolOf log below old → IsPoolOf log below new
  pool-redoes old new page count done are h = subst (λ (v : Pooled). IsPoolOf log below v) (sym done.same) (record {
    paged = ap (λ (v : Paged). v.pages) done.framed ∙ h.paged ∙ sym (length-set old.waits page left);
    tabled = h.tabled ∙ sym (length-set old.waits page left);
    told = h.told ∙ sym (length-set old.waits page left);
    frames = respelled log (synced_lsn old.frames) below new.frames are;
    each = λ p lt. at p (omega (arith, length-set old.waits page left, lt));
  })
    where
      left : List Change
      left = drop count (pending_of old.waits page)

      spelled : (p : ℕ) → synced_lsn new.frames p ≡ synced_lsn old.frames p
      spelled p = ap (λ (v : Paged). synced_lsn v p) done.framed

      at : (p : ℕ) → p < length old.waits
          → IsPageOf log p (frame_of new.frames p) (synced_lsn new.frames p) (entry_of old.dirty p) (pending_of (slice_set old.waits page left) p) (unread_of old.unread p)
      at p lt =
          elim (cases_eq p page) [
            | inl same ↦
                let f = done.f in
                let front : List Change = take count (pending_of old.waits page) in
                let before : IsPageOf log page (Some f) (synced_lsn old.frames page) (entry_of old.dirty page) (pending_of old.waits page) (unread_of old.unread page)
                = subst (λ (o : Option Framed). IsPageOf log page o (synced_lsn old.frames page) (entry_of old.dirty page) (pending_of old.waits page) (unread_of old.unread page)) done.resident (h.each page done.inside) in
                subst (λ (k : ℕ). IsPageOf log k (frame_of new.frames k) (synced_lsn new.frames k) (entry_of old.dirty k) (pending_of (slice_set old.waits page left) k) (unread_of old.unread k)) (sym same)
                (page-cong log page (Some (record f { content = redone_all f.content front; lent = None })) (frame_of new.frames page) (synced_lsn old.frames page) (synced_lsn new.frames page) (entry_of old.dirty page) (entry_of old.dirty page)
                left (pending_of (slice_set old.waits page left) page) (unread_of old.unread page) (unread_of old.unread page) done.sets.frame (spelled page) refl (get_or-set_same old.waits page left [] done.inside) refl
                (redone-page log page f (synced_lsn old.frames page) (entry_of old.dirty page) (pending_of old.waits page) front left (unread_of old.unread page) old.frames.pages h.frames.is_log
                (sym (take-append-drop count (pending_of old.waits page))) before))
            | inr ne ↦
                page-cong log p (frame_of old.frames p) (frame_of new.frames p) (synced_lsn old.frames p) (synced_lsn new.frames p) (entry_of old.dirty p) (entry_of old.dirty p)
                (pending_of old.waits p) (pending_of (slice_set old.waits page left) p) (unread_of old.unread p) (unread_of old.unread p) (done.sets.others p ne) (spelled p) refl
                (get_or-set_other old.waits page p left [] ne) refl (h.each p lt)
          ]

  -- the lease of a page begins or ends
  pub pool-marks : (old new : Pooled) (page : ℕ) → Marks old new page → AreFramesOf log (synced_lsn old.frames) below new.frames → IsPoolOf log below old → IsPoolOf log below new
  pool-marks old new page done are h = subst (λ (v : Pooled). IsPoolOf log below v) (sym done.same) (record {
    paged = ap (λ (v : Paged). v.pages) done.framed ∙ h.paged;
    tabled = h.tabled;
    told = h.told;
    frames = respelled log (synced_lsn old.frames) below new.frames are;
    each = at;
  })
    where
      spelled : (p : ℕ) → synced_lsn new.frames p ≡ synced_lsn old.frames p
      spelled p = ap (λ (v : Paged). synced_lsn v p) done.framed

      at : (p : ℕ) → p < length old.waits → IsPageOf log p (frame_of new.frames p) (synced_lsn new.frames p) (entry_of old.dirty p) (pending_of old.waits p) (unread_of old.unread p)
      at p lt =
          elim (cases_eq p page) [
            | inl same ↦
                let f = done.f in
                let before : IsPageOf log p (Some f) (synced_lsn old.frames p) (entry_of old.dirty p) (pending_of old.waits p) (unread_of old.unread p)
                = subst (λ (o : Option Framed). IsPageOf log p o (synced_lsn old.frames p) (entry_of old.dirty p) (pending_of old.waits p) (unread_of old.unread p)) (ap (λ (k : ℕ). frame_of old.frames k) same ∙ done.resident) (h.each p lt) in
                page-cong log p (Some (record f { lent = done.lent })) (frame_of new.frames p) (synced_lsn old.frames p) (synced_lsn new.frames p) (entry_of old.dirty p) (entry_of old.dirty p)
                (pending_of old.waits p) (pending_of old.waits p) (unread_of old.unread p) (unread_of old.unread p) (ap (λ (k : ℕ). frame_of new.frames k) same ∙ done.sets.frame) (spelled p) refl refl refl
                (marked-page log p f done.lent (synced_lsn old.frames p) (entry_of old.dirty p) (pending_of old.waits p) (unread_of old.unread p) before)
            | inr ne ↦ same-page old new.frames p (done.sets.others p ne) (spelled p) (h.each p lt)
          ]

  -- a page is written
  pub pool-stores : (old new : Pooled) (page : ℕ) (lsn : Lsn) → IsDueAt old page lsn → StoresPage old new page lsn
      → AreFramesOf log (synced_lsn old.frames) below new.frames → IsPoolOf log below old → IsPoolOf log below new
  pool-stores old new page lsn due done are h = subst (λ (v : Pooled). IsPoolOf log below v) (sym done.same) (record {
    paged = pages ∙ h.paged;
    tabled = length-set old.dirty page e' ∙ h.tabled;
    told = h.told;
    frames = respelled log (synced_lsn old.frames) below new.frames are;
    each = at;
  })
    where
      e' : DirtyPage
      e' = after_write (entry_of old.dirty page) (first_lsn (pending_of old.waits page))

      pages : new.frames.pages ≡ old.frames.pages
      pages = ap (λ (v : Paged). v.pages) done.writes.same

      spelled : (p : ℕ) → p < length old.waits → synced_lsn new.frames p ≡ synced_lsn old.frames p
      spelled p lt = synced_is log (synced_lsn old.frames) below new.frames p (omega (arith, lt, pages, h.paged)) are

      f : Framed
      f = done.writes.f

      at : (p : ℕ) → p < length old.waits → IsPageOf log p (frame_of new.frames p) (synced_lsn new.frames p) (entry_of (slice_set old.dirty page e') p) (pending_of old.waits p) (unread_of old.unread p)
      at p lt =
          elim (cases_eq p page) [
            | inl same ↦
                let before : IsPageOf log page (Some f) (synced_lsn old.frames page) (entry_of old.dirty page) (pending_of old.waits page) (unread_of old.unread page)
                = subst (λ (o : Option Framed). IsPageOf log page o (synced_lsn old.frames page) (entry_of old.dirty page) (pending_of old.waits page) (unread_of old.unread page)) done.writes.due.resident (h.each page due.in_range) in
                let f-at = framed old page f due.in_range done.writes.due.resident h in
                subst (λ (k : ℕ). IsPageOf log k (frame_of new.frames k) (synced_lsn new.frames k) (entry_of (slice_set old.dirty page e') k) (pending_of old.waits k) (unread_of old.unread k)) (sym same)
                (page-cong log page (Some (record f { written = f.content.lsn })) (frame_of new.frames page) (synced_lsn old.frames page) (synced_lsn new.frames page) e' (entry_of (slice_set old.dirty page e') page)
                (pending_of old.waits page) (pending_of old.waits page) (unread_of old.unread page) (unread_of old.unread page) done.writes.sets.frame (spelled page due.in_range)
                (get_or-set_same old.dirty page e' untouched_page (omega (arith, due.in_range, h.tabled))) refl refl
                (stored-page log page f (synced_lsn old.frames page) (entry_of old.dirty page) (pending_of old.waits page) (unread_of old.unread page) f-at.order f-at.inside before))
            | inr ne ↦
                page-cong log p (frame_of old.frames p) (frame_of new.frames p) (synced_lsn old.frames p) (synced_lsn new.frames p) (entry_of old.dirty p) (entry_of (slice_set old.dirty page e') p)
                (pending_of old.waits p) (pending_of old.waits p) (unread_of old.unread p) (unread_of old.unread p) (done.writes.sets.others p ne) (spelled p lt) (get_or-set_other old.dirty page p e' untouched_page ne) refl refl (h.each p lt)
          ]

  -- the device is synced
  pub pool-syncs : (old new : Pooled) → SyncsPages old new → AreFramesOf log (λ p. written_or (frame_of old.frames p) (synced_lsn old.frames p)) below new.frames
      → IsPoolOf log below old → IsPoolOf log below new
  pool-syncs old new done are h = subst (λ (v : Pooled). IsPoolOf log below v) (sym done.same) (record {
    paged = pages ∙ h.paged;
    tabled = length-map old.dirty after_sync ∙ h.tabled;
    told = h.told;
    frames = respelled log (λ p. written_or (frame_of old.frames p) (synced_lsn old.frames p)) below new.frames are;
    each = at;
  })
    where
      pages : new.frames.pages ≡ old.frames.pages
      pages = ap (λ (v : Paged). v.pages) done.syncs.same

      at : (p : ℕ) → p < length old.waits → IsPageOf log p (frame_of new.frames p) (synced_lsn new.frames p) (entry_of (map after_sync old.dirty) p) (pending_of old.waits p) (unread_of old.unread p)
      at p lt =
          page-cong log p (option_map synced_frame (frame_of old.frames p)) (frame_of new.frames p) (written_or (frame_of old.frames p) (synced_lsn old.frames p)) (synced_lsn new.frames p)
          (after_sync (entry_of old.dirty p)) (entry_of (map after_sync old.dirty) p) (pending_of old.waits p) (pending_of old.waits p) (unread_of old.unread p) (unread_of old.unread p)
          (done.syncs.frames p) (synced_is log (λ q. written_or (frame_of old.frames q) (synced_lsn old.frames q)) below new.frames p (omega (arith, lt, pages, h.paged)) are)
          (get_or-map after_sync old.dirty p untouched_page untouched_page (omega (arith, lt, h.tabled))) refl refl
          (synced-page log p (frame_of old.frames p) (synced_lsn old.frames p) (entry_of old.dirty p) (pending_of old.waits p) (unread_of old.unread p) (h.each p lt))

  -- more of the log survives each crash
  pub pool-raised : (v : Pooled) (more : ℕ) → AreFramesOf log (synced_lsn v.frames) more v.frames → IsPoolOf log below v → IsPoolOf log more v
  pool-raised v more are h = record { paged = h.paged; tabled = h.tabled; told = h.told; frames = are; each = h.each }

-- ---- a record more

module _ (log : List Record) (below : ℕ) (r : Record) (placed : r.lsn.0 ≡ end_of log) where
  -- that changes no page
  pub pool-other : (v : Pooled) → change_of r ≡ None → AreFramesOf (log ++ r ∷ []) (synced_lsn v.frames) below v.frames → IsPoolOf log below v → IsPoolOf (log ++ r ∷ []) below v
  pool-other v none are h = record {
    paged = h.paged;
    tabled = h.tabled;
    told = h.told;
    frames = are;
    each = λ p lt. passed log r placed p (frame_of v.frames p) (synced_lsn v.frames p) (entry_of v.dirty p) (pending_of v.waits p) (unread_of v.unread p) (changes_on-none p r none) (h.each p lt);
  }

  -- that changes one
  pub pool-change : (old : Pooled) (c : Change) → c.key.page < length old.waits → change_of r ≡ Some c → AreFramesOf (log ++ r ∷ []) (synced_lsn old.frames) below old.frames
      → IsPoolOf log below old → IsPoolOf (log ++ r ∷ []) below (with_change old c)
  pool-change old c inside is are h = record {
    paged = h.paged ∙ sym (length-set old.waits c.key.page w');
    tabled = length-set old.dirty c.key.page e' ∙ h.tabled ∙ sym (length-set old.waits c.key.page w');
    told = h.told ∙ sym (length-set old.waits c.key.page w');
    frames = are;
    each = λ p lt. at p (omega (arith, length-set old.waits c.key.page w', lt));
  }
    where
      e' : DirtyPage
      e' = after_record (entry_of old.dirty c.key.page) c.lsn

      w' : List Change
      w' = pending_of old.waits c.key.page ++ c ∷ []

      at : (p : ℕ) → p < length old.waits
          → IsPageOf (log ++ r ∷ []) p (frame_of old.frames p) (synced_lsn old.frames p) (entry_of (slice_set old.dirty c.key.page e') p) (pending_of (slice_set old.waits c.key.page w') p) (unread_of old.unread p)
      at p lt =
          elim (cases_eq p c.key.page) [
            | inl same ↦
                let far = reached log below old c.key.page inside h in
                subst (λ (k : ℕ). IsPageOf (log ++ r ∷ []) k (frame_of old.frames k) (synced_lsn old.frames k) (entry_of (slice_set old.dirty c.key.page e') k) (pending_of (slice_set old.waits c.key.page w') k) (unread_of old.unread k)) (sym same)
                (page-cong (log ++ r ∷ []) c.key.page (frame_of old.frames c.key.page) (frame_of old.frames c.key.page) (synced_lsn old.frames c.key.page) (synced_lsn old.frames c.key.page)
                e' (entry_of (slice_set old.dirty c.key.page e') c.key.page) w' (pending_of (slice_set old.waits c.key.page w') c.key.page) (unread_of old.unread c.key.page) (unread_of old.unread c.key.page)
                refl refl (get_or-set_same old.dirty c.key.page e' untouched_page (omega (arith, inside, h.tabled))) (get_or-set_same old.waits c.key.page w' [] inside) refl
                (pushed log r placed c (frame_of old.frames c.key.page) (synced_lsn old.frames c.key.page) (entry_of old.dirty c.key.page) (pending_of old.waits c.key.page) (unread_of old.unread c.key.page)
                is far.0 far.1 (h.each c.key.page inside)))
            | inr ne ↦
                let apart : c.key.page ≡ p → ⊥ = λ (is' : c.key.page ≡ p). ne (sym is') in
                page-cong (log ++ r ∷ []) p (frame_of old.frames p) (frame_of old.frames p) (synced_lsn old.frames p) (synced_lsn old.frames p) (entry_of old.dirty p) (entry_of (slice_set old.dirty c.key.page e') p)
                (pending_of old.waits p) (pending_of (slice_set old.waits c.key.page w') p) (unread_of old.unread p) (unread_of old.unread p) refl refl
                (get_or-set_other old.dirty c.key.page p e' untouched_page ne) (get_or-set_other old.waits c.key.page p w' [] ne) refl
                (passed log r placed p (frame_of old.frames p) (synced_lsn old.frames p) (entry_of old.dirty p) (pending_of old.waits p) (unread_of old.unread p) (changes_on-other p r c is apart) (h.each p lt))
          ]

-- ---- the empty log

no_frame : (v : Paged) (p : ℕ) → v.frames ≡ [] → frame_of v p ≡ None
no_frame v p none = ap (λ (fs : List (ℕ × Framed)). lookup (nat_eq p) fs) none

-- empty pages, of which none is in a frame
pub pool_of_empty : (frames : Paged) (pages first below : ℕ) → frames.pages ≡ pages → frames.frames ≡ []
    → AreFramesOf [] (λ _. 0) below frames → IsPoolOf [] below (new_pool frames pages first)
pool_of_empty frames pages first below count none are = record {
  paged = count ∙ sym len;
  tabled = length-replicate pages untouched_page ∙ sym len;
  told = length-replicate {A = Option Lsn} pages None ∙ sym len;
  frames = respelled [] (λ _. 0) below frames are;
  each = λ p lt. one p (omega (arith, lt, len));
}
  where
    len : length (replicate {A = List Change} pages []) ≡ pages
    len = length-replicate pages []

    one : (p : ℕ) → p < pages → IsPooledPageOf [] (new_pool frames pages first) p
    one p lt =
        page-cong [] p None (frame_of frames p) 0 (synced_lsn frames p) untouched_page (entry_of (replicate pages untouched_page) p) [] (pending_of (replicate pages []) p) None (unread_of (replicate pages None) p)
        (no_frame frames p none) (synced_is [] (λ _. 0) below frames p (omega (arith, lt, count)) are) (get_or-replicate pages p untouched_page untouched_page lt) (get_or-replicate {A = List Change} pages p [] [] lt)
        (get_or-replicate {A = Option Lsn} pages p None None lt)
        (record {
          row = page-load [] p 0 None (record { reached = omega (arith, end_of_is []); first = ap first_lsn (sym (changes_above-nil p 0)) });
          wait = sym (changes_above-nil p 0);
        })
