-- What each call leaves of all pages, for a log.
use Rattle.std.proofs.Common.{◌≡◌, ◌⊎◌, ℕ, ◌<◌, ◌≤◌, ◌+◌, Bool, false, IsTrue, List, [], ◌∷◌, ◌++◌, Option, Some, None, inl, inr, refl, sym, ap, subst, ◌∙◌, arith}
use Rattle.std.specs.Prelude.{Contains, Result, Ok, Err, OnOk, IfOk, IfErr}
use Rattle.std.specs.Result.{IsErrOf}
use Rattle.std.proofs.lemmas.Bool.Decides.{eqb_tells}
use Rattle.als_record.specs.declared.record.Record.{Record}
use Rattle.als_record.specs.LogText.{end_of, follow_from, IsLog}
use Rattle.als_record.specs.Pages.{PageState, page_at}
use Rattle.als_record.proofs.LogLaws.{end_of_is, end_of_push}
use Rattle.als_record.proofs.PageLaws.{page_at-start}
use Rattle.als_disk.specs.Slot.{Slot, only}
use Rattle.als_disk.specs.Store.{zeros}
use Rattle.als_page.specs.Block.{block_of}
use Rattle.als_page.proofs.BlockLaws.{block_of-empty}
use Rattle.als_frames.specs.declared.fault.Fault.{Fault}
use Rattle.als_frames.specs.declared.fault.Fault.TheVariants.{PoolFull, NothingToDo, Device, Memory, BadPage}
use Rattle.als_frames.specs.Frames.{Framed, clean_frame, Paged, frame_of, slot_of, without_frames}
use Rattle.als_frames.specs.Images.{image_of, synced_lsn, written_or, IsImageOf, IsStoredAt, IsFramedAt, IsPageAt, AreFramesOf}
use Rattle.als_frames.specs.Outcomes.{IsFound, IsBad, IsBadBelow, IsReplaced, PutsIn, RefusesFetch, RefusesReading, ReadFails, Writes, WriteFails, RefusesWrite, Syncs, SyncFails}
use Rattle.als_frames.proofs.BlockLaws.{zeros-replicate}
use Rattle.als_frames.proofs.SlotsLaws.{slot_at}
use Rattle.als_frames.proofs.PageSteps.{images, replaced_page, found_content, not_bad, not_bad_below, spelled, loaded_page, written_page, unwritten_page, unsure_page, synced_page, pushed_page, raised_page}

module _ (log : List Record) (synced : ℕ → ℕ) (below : ℕ) where
  -- a page that is as it was
  same_page : (page : ℕ) (sure sure' : Bool) (old new : Slot) (o o' : Option Framed) → sure' ≡ sure → new ≡ old → o' ≡ o
      → IsPageAt log page below (synced page) sure old o → IsPageAt log page below (synced page) sure' new o'
  same_page page sure sure' old new o o' eu es eo h =
      subst (λ b. IsPageAt log page below (synced page) b new o') (sym eu)
      (subst (λ s. IsPageAt log page below (synced page) sure s o') (sym es)
      (subst (λ x. IsPageAt log page below (synced page) sure old x) (sym eo) h))

  -- a page that has a frame, and one that has none
  framed_page : (page : ℕ) (v : Paged) (f : Framed) → frame_of v page ≡ Some f → IsPageAt log page below (synced page) v.sure (slot_of v page) (frame_of v page)
      → IsFramedAt log page below (synced page) v.sure (slot_of v page) f
  framed_page page v f is h = subst (IsPageAt log page below (synced page) v.sure (slot_of v page)) is h

  stored_page : (page : ℕ) (v : Paged) → frame_of v page ≡ None → IsPageAt log page below (synced page) v.sure (slot_of v page) (frame_of v page)
      → IsStoredAt log page below (synced page) (slot_of v page)
  stored_page page v is h = subst (IsPageAt log page below (synced page) v.sure (slot_of v page)) is h

  -- the counts of the device change nothing
  pub same_frames : (old : Paged) (failures attempts : ℕ) → AreFramesOf log synced below old
      → AreFramesOf log synced below (record old { failures = failures; attempts = attempts })
  same_frames old failures attempts h = record { is_log = h.is_log; each = h.each }

  pub keeps_reading : (old new : Paged) → ReadFails old new → AreFramesOf log synced below old → AreFramesOf log synced below new
  keeps_reading old new fails h = subst (AreFramesOf log synced below) (sym fails.same) (same_frames old new.failures old.attempts h)

  pub keeps_same : (old new : Paged) → new ≡ old → AreFramesOf log synced below old → AreFramesOf log synced below new
  keeps_same old new same h = subst (AreFramesOf log synced below) (sym same) h

  -- a page is made resident
  pub keeps_put : (old new : Paged) (page : ℕ) (content : PageState) → frame_of old page ≡ None → content ≡ page_at log page (synced page) → PutsIn old new page content
      → AreFramesOf log synced below old → AreFramesOf log synced below new
  keeps_put old new page content absent is loads h = record { is_log = subst (λ n. IsLog n log) (sym pages) h.is_log; each = each }
    where
      pages : new.pages ≡ old.pages
      pages = ap (λ (v : Paged). v.pages) loads.same

      sure : new.sure ≡ old.sure
      sure = ap (λ (v : Paged). v.sure) loads.same

      slots : (p : ℕ) → slot_of new p ≡ slot_of old p
      slots p = ap (λ (v : Paged). slot_of v p) loads.same

      resident : page < old.pages → IsPageAt log page below (synced page) new.sure (slot_of new page) (frame_of new page)
      resident lt =
          let before : IsStoredAt log page below (synced page) (slot_of old page) = stored_page page old absent (h.each page lt) in
          let after : IsPageAt log page below (synced page) old.sure (slot_of old page) (Some (clean_frame page content))
          = loaded_page log page below (synced page) old.sure (slot_of old page) content is before in
          same_page page old.sure new.sure (slot_of old page) (slot_of new page) (Some (clean_frame page content)) (frame_of new page) sure (slots page) loads.frame after

      other : (p : ℕ) → p < old.pages → (frame_of new p ≡ frame_of old p) ⊎ IsReplaced (frame_of old p) (frame_of new p)
          → IsPageAt log p below (synced p) new.sure (slot_of new p) (frame_of new p)
      other p lt (inl same) = same_page p old.sure new.sure (slot_of old p) (slot_of new p) (frame_of old p) (frame_of new p) sure (slots p) same (h.each p lt)
      other p lt (inr (f, was, clean, gone)) =
          let before : IsFramedAt log p below (synced p) old.sure (slot_of old p) f = framed_page p old f was (h.each p lt) in
          let after : IsPageAt log p below (synced p) old.sure (slot_of old p) None = replaced_page log p below (synced p) old.sure (slot_of old p) f before clean.0 in
          same_page p old.sure new.sure (slot_of old p) (slot_of new p) None (frame_of new p) sure (slots p) gone after

      each : (p : ℕ) → p < new.pages → IsPageAt log p below (synced p) new.sure (slot_of new p) (frame_of new p)
      each p lt =
          let lt' : p < old.pages = omega (arith, lt, pages) in
          elim (eqb_tells p page) [
            | inl same ↦ subst (λ n. IsPageAt log n below (synced n) new.sure (slot_of new n) (frame_of new n)) (sym same.1) (resident (omega (arith, lt', same.1)))
            | inr apart ↦ other p lt' (loads.others p apart.1)
          ]

  pub keeps_refused_fetch : (e : Fault) (old new : Paged) (page end : ℕ) → RefusesFetch e old new page end → AreFramesOf log synced below old → AreFramesOf log synced below new
  keeps_refused_fetch PoolFull old new page end r h = keeps_same old new r.1 h
  keeps_refused_fetch Device old new page end r h = keeps_reading old new r.1 h
  keeps_refused_fetch (BadPage p) old new page end r h = keeps_same old new r.3 h
  keeps_refused_fetch Memory old new page end r h = absurd r
  keeps_refused_fetch NothingToDo old new page end r h = absurd r

  pub keeps_refused_reading : (e : Fault) (old new : Paged) (page : ℕ) → RefusesReading e old new page → AreFramesOf log synced below old → AreFramesOf log synced below new
  keeps_refused_reading Device old new page r h = keeps_reading old new r h
  keeps_refused_reading (BadPage p) old new page r h = keeps_same old new r.2 h
  keeps_refused_reading PoolFull old new page r h = absurd r
  keeps_refused_reading NothingToDo old new page r h = absurd r
  keeps_refused_reading Memory old new page r h = absurd r

  -- a page with no frame is read as the log has it
  pub reads : (v : Paged) (page : ℕ) (content : PageState) → page < v.pages → frame_of v page ≡ None → IsFound (slot_of v page) page content → AreFramesOf log synced below v
      → content ≡ page_at log page (synced page)
  reads v page content lt absent found h =
      found_content log page below v.pages (synced page) (slot_of v page) content h.is_log (stored_page page v absent (h.each page lt)) found

  pub never_bad : (v : Paged) (page : ℕ) → page < v.pages → frame_of v page ≡ None → AreFramesOf log synced below v → IsBad (slot_of v page) page → ⊥
  never_bad v page lt absent h bad = not_bad log page below v.pages (synced page) (slot_of v page) h.is_log (stored_page page v absent (h.each page lt)) bad

  pub never_bad_below : (v : Paged) (page end : ℕ) → page < v.pages → frame_of v page ≡ None → end_of log ≤ end → AreFramesOf log synced below v → IsBadBelow (slot_of v page) page end → ⊥
  never_bad_below v page end lt absent le h bad = not_bad_below log page below v.pages (synced page) end (slot_of v page) h.is_log le (stored_page page v absent (h.each page lt)) bad

  -- a page is written
  pub keeps_write : (old new : Paged) (page : ℕ) → ((f : Framed) → frame_of old page ≡ Some f → f.content.lsn < below) → Writes old new page
      → AreFramesOf log synced below old → AreFramesOf log synced below new
  keeps_write old new page stable done h = record { is_log = subst (λ n. IsLog n log) (sym pages) h.is_log; each = each }
    where
      pages : new.pages ≡ old.pages
      pages = ap (λ (v : Paged). v.pages) done.same

      sure : new.sure ≡ old.sure
      sure = ap (λ (v : Paged). v.sure) done.same

      resident : page < old.pages → IsPageAt log page below (synced page) new.sure (slot_of new page) (frame_of new page)
      resident lt =
          let before = framed_page page old done.f done.due.resident (h.each page lt) in
          same_page page old.sure new.sure (slot_of new page) (slot_of new page) (Some (record done.f { written = done.f.content.lsn })) (frame_of new page) sure refl done.sets.frame
          (written_page log page below (synced page) old.sure (slot_of old page) (slot_of new page) done.f (stable done.f done.due.resident) done.due.due done.slots.0 before)

      each : (p : ℕ) → p < new.pages → IsPageAt log p below (synced p) new.sure (slot_of new p) (frame_of new p)
      each p lt =
          let lt' : p < old.pages = omega (arith, lt, pages) in
          elim (eqb_tells p page) [
            | inl same ↦ subst (λ n. IsPageAt log n below (synced n) new.sure (slot_of new n) (frame_of new n)) (sym same.1) (resident (omega (arith, lt', same.1)))
            | inr apart ↦ same_page p old.sure new.sure (slot_of old p) (slot_of new p) (frame_of old p) (frame_of new p) sure (done.slots.1 p apart.1) (done.sets.others p apart.1) (h.each p lt')
          ]

  -- a write of a page has failed
  pub keeps_failed_write : (old new : Paged) (page : ℕ) → ((f : Framed) → frame_of old page ≡ Some f → f.content.lsn < below) → WriteFails old new page
      → AreFramesOf log synced below old → AreFramesOf log synced below new
  keeps_failed_write old new page stable done h = record { is_log = subst (λ n. IsLog n log) (sym pages) h.is_log; each = each }
    where
      pages : new.pages ≡ old.pages
      pages = ap (λ (v : Paged). v.pages) done.same

      sure : new.sure ≡ false
      sure = ap (λ (v : Paged). v.sure) done.same

      frames : (p : ℕ) → frame_of new p ≡ frame_of old p
      frames p = ap (λ (v : Paged). frame_of v p) done.same

      resident : page < old.pages → IsPageAt log page below (synced page) new.sure (slot_of new page) (frame_of new page)
      resident lt =
          let before = framed_page page old done.f done.due.resident (h.each page lt) in
          same_page page false new.sure (slot_of new page) (slot_of new page) (Some done.f) (frame_of new page) sure refl (frames page ∙ done.due.resident)
          (unwritten_page log page below (synced page) old.sure (slot_of old page) (slot_of new page) done.f (stable done.f done.due.resident) done.due.due done.slots.0 before)

      each : (p : ℕ) → p < new.pages → IsPageAt log p below (synced p) new.sure (slot_of new p) (frame_of new p)
      each p lt =
          let lt' : p < old.pages = omega (arith, lt, pages) in
          elim (eqb_tells p page) [
            | inl same ↦ subst (λ n. IsPageAt log n below (synced n) new.sure (slot_of new n) (frame_of new n)) (sym same.1) (resident (omega (arith, lt', same.1)))
            | inr apart ↦ same_page p false new.sure (slot_of old p) (slot_of new p) (frame_of old p) (frame_of new p) sure (done.slots.1 p apart.1) (frames p)
                (unsure_page log p below (synced p) old.sure (slot_of old p) (frame_of old p) (h.each p lt'))
          ]

  pub keeps_refused_write : (e : Fault) (old new : Paged) (page : ℕ) → ((f : Framed) → frame_of old page ≡ Some f → f.content.lsn < below) → RefusesWrite e old new page
      → AreFramesOf log synced below old → AreFramesOf log synced below new
  keeps_refused_write NothingToDo old new page stable r h = keeps_same old new r.1 h
  keeps_refused_write Device old new page stable r h = keeps_failed_write old new page stable r h
  keeps_refused_write PoolFull old new page stable r h = absurd r
  keeps_refused_write Memory old new page stable r h = absurd r
  keeps_refused_write (BadPage p) old new page stable r h = absurd r

  -- a sync has failed
  pub keeps_failed_sync : (old new : Paged) → SyncFails old new → AreFramesOf log synced below old → AreFramesOf log synced below new
  keeps_failed_sync old new fails h = subst (AreFramesOf log synced below) (sym fails.same) (same_frames old new.failures (old.attempts + 1) h)

  -- the device was synced
  pub keeps_sync : (old new : Paged) → IsTrue old.sure → Syncs old new → AreFramesOf log synced below old → AreFramesOf log (λ p. written_or (frame_of old p) (synced p)) below new
  keeps_sync old new yes' done h = record { is_log = subst (λ n. IsLog n log) (sym pages) h.is_log; each = each }
    where
      pages : new.pages ≡ old.pages
      pages = ap (λ (v : Paged). v.pages) done.same

      sure : new.sure ≡ old.sure
      sure = ap (λ (v : Paged). v.sure) done.same

      each : (p : ℕ) → p < new.pages → IsPageAt log p below (written_or (frame_of old p) (synced p)) new.sure (slot_of new p) (frame_of new p)
      each p lt =
          let lt' : p < old.pages = omega (arith, lt, pages) in
          let after = synced_page log p below (synced p) old.sure (slot_of old p) (slot_of new p) (frame_of old p) yes' (done.slots p lt') (h.each p lt') in
          subst (λ b. IsPageAt log p below (written_or (frame_of old p) (synced p)) b (slot_of new p) (frame_of new p)) (sym sure)
          (subst (λ o. IsPageAt log p below (written_or (frame_of old p) (synced p)) old.sure (slot_of new p) o) (sym (done.frames p)) after)

  -- the block spells the page_LSN of the image last synced
  pub synced_is : (v : Paged) (page : ℕ) → page < v.pages → AreFramesOf log synced below v → synced_lsn v page ≡ synced page
  synced_is v page lt h = spelled log page below v.pages (synced page) v.sure (slot_of v page) (frame_of v page) h.is_log (h.each page lt)

  -- whatever a crash leaves is a stable image
  pub each_image : (v : Paged) (page : ℕ) (x : List ℕ) → page < v.pages → AreFramesOf log synced below v → Contains (slot_of v page).candidates x → IsImageOf log page below (synced page) x
  each_image v page x lt h has = images log page below (synced page) v.sure (slot_of v page) (frame_of v page) (h.each page lt) x has

  -- a record is appended to the log
  pub keeps_record : (v : Paged) (r : Record) → IsLog v.pages (log ++ r ∷ []) → r.lsn.0 ≡ end_of log → AreFramesOf log synced below v → AreFramesOf (log ++ r ∷ []) synced below v
  keeps_record v r is_log placed h = record {
    is_log = is_log;
    each = λ p lt. pushed_page log r p placed (let le : end_of log ≤ end_of (log ++ r ∷ []) = omega (arith, end_of_push log r) in le) below (synced p) v.sure (slot_of v p) (frame_of v p) (h.each p lt);
  }

  -- more of the log survives each crash
  pub keeps_mark : (v : Paged) (more : ℕ) → below ≤ more → AreFramesOf log synced below v → AreFramesOf log synced more v
  keeps_mark v more le h = record { is_log = h.is_log; each = λ p lt. raised_page log p below more le (synced p) v.sure (slot_of v p) (frame_of v p) (h.each p lt) }

-- new frames are those of the empty log
pub empty_log : (pages : ℕ) → IsLog pages []
unfolding follow_from
empty_log pages = record { laid_out = refl; records = tt }

empty_image : (page : ℕ) → image_of [] page 0 ≡ zeros
empty_image page =
    ap (block_of page) (page_at-start [] page 0 (empty_log 0).laid_out (omega arith)) ∙ block_of-empty page ∙ zeros-replicate

-- a page of the empty log
pub empty_stored : (page below : ℕ) (slot : Slot) → slot ≡ only zeros → IsStoredAt [] page below 0 slot
empty_stored page below slot is = record {
  stable = record {
    own = ap (λ (s : PageState). s.lsn) (page_at-start [] page 0 (empty_log 0).laid_out (omega arith));
    inside = omega (arith, end_of_is []);
    stable = inl refl;
  };
  settled = is ∙ ap only (sym (empty_image page));
}

-- pages of which none has a frame
pub opened : (log : List Record) (synced : ℕ → ℕ) (below pages most blocks failures attempts : ℕ) (slot : ℕ → Slot) → IsLog pages log
    → ((page : ℕ) → page < pages → IsStoredAt log page below (synced page) (slot page))
    → AreFramesOf log synced below (without_frames pages most slot blocks failures attempts)
opened log synced below pages most blocks failures attempts slot is_log stored = record {
  is_log = is_log;
  each = λ p lt. subst (IsStoredAt log p below (synced p)) (sym (slot_at pages p slot lt)) (stored p lt);
}

-- ---- by the answer of a call

module _ (log : List Record) (synced : ℕ → ℕ) (below : ℕ) where
  pub fetch_keeps : {T : Type 0} (r : Result T Fault) (old new : Paged) (page end : ℕ) → OnOk r (new ≡ old) → IfErr r (λ e. RefusesFetch e old new page end)
      → AreFramesOf log synced below old → AreFramesOf log synced below new
  fetch_keeps (Ok x) old new page end ok err h = keeps_same log synced below old new ok h
  fetch_keeps (Err e) old new page end ok err h = keeps_refused_fetch log synced below e old new page end err h

  pub fetch_sound : {T : Type 0} (r : Result T Fault) (old new : Paged) (page end : ℕ) → page < old.pages → frame_of old page ≡ None → end_of log ≤ end
      → IfErr r (λ e. RefusesFetch e old new page end) → AreFramesOf log synced below old → IsErrOf r (BadPage page) → ⊥
  fetch_sound r old new page end lt absent le err h is =
      let refused : RefusesFetch (BadPage page) old new page end = subst (λ r'. IfErr r' (λ e. RefusesFetch e old new page end)) is err in
      never_bad_below log synced below old page end lt absent le h refused.2

  pub write_keeps : (r : Result (Unit {0}) Fault) (old new : Paged) (page : ℕ) → OnOk r (Writes old new page) → IfErr r (λ e. RefusesWrite e old new page)
      → ((f : Framed) → frame_of old page ≡ Some f → f.content.lsn < below) → AreFramesOf log synced below old → AreFramesOf log synced below new
  write_keeps (Ok x) old new page ok err stable h = keeps_write log synced below old new page stable ok h
  write_keeps (Err e) old new page ok err stable h = keeps_refused_write log synced below e old new page stable err h

  pub read_keeps : {T : Type 0} (r : Result T Fault) (old new : Paged) (page : ℕ) → OnOk r (new ≡ old) → IfErr r (λ e. RefusesReading e old new page)
      → AreFramesOf log synced below old → AreFramesOf log synced below new
  read_keeps (Ok x) old new page ok err h = keeps_same log synced below old new ok h
  read_keeps (Err e) old new page ok err h = keeps_refused_reading log synced below e old new page err h

  pub read_sound : {T : Type 0} (r : Result T Fault) (old new : Paged) (page : ℕ) → page < old.pages → frame_of old page ≡ None
      → IfErr r (λ e. RefusesReading e old new page) → AreFramesOf log synced below old → IsErrOf r (BadPage page) → ⊥
  read_sound r old new page lt absent err h is =
      let refused : RefusesReading (BadPage page) old new page = subst (λ r'. IfErr r' (λ e. RefusesReading e old new page)) is err in
      never_bad log synced below old page lt absent h refused.1

-- what follows of a success
pub IfOk-so : {T E : Type 0} {P Q : T → Type 0} (r : Result T E) → IfOk r P → ((x : T) → P x → Q x) → IfOk r Q
IfOk-so (Ok x) p so = so x p
IfOk-so (Err e) p so = tt

pub OnOk-so : {T E : Type 0} {P Q : Type 0} (r : Result T E) → OnOk r P → (P → Q) → OnOk r Q
OnOk-so (Ok x) p so = so p
OnOk-so (Err e) p so = tt
