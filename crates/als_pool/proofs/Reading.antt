-- What waits for pages as a log is read at a restart.
use Rattle.std.proofs.Common.{◌≡◌, ◌⊎◌, ℕ, ◌-◌, ◌<◌, ◌≤◌, List, [], ◌∷◌, ◌++◌, length, Option, Some, None, inl, inr, refl, sym, ap, subst, ◌∙◌, length-set, arith}
use Rattle.std.specs.Prelude.{slice_set, MatchOption, IfSome}
use Rattle.std.specs.List.{AllByRecursion}
use Rattle.std.proofs.lemmas.Bool.{cases_eq}
use Rattle.std.proofs.lemmas.List.{get_or-set_same, get_or-set_other}
use Rattle.als_record.specs.declared.lsn.Lsn.{Lsn}
use Rattle.als_record.specs.declared.change.Change.{Change}
use Rattle.als_record.specs.declared.record.Record.{Record}
use Rattle.als_record.specs.declared.rows.LoggedPage.{LoggedPage}
use Rattle.als_record.specs.LogText.{end_of}
use Rattle.als_record.specs.Pages.{change_of, changes_on, changes_above}
use Rattle.als_record.proofs.PageLaws.{changes_on-append, changes_on-none, changes_on-same, changes_on-other}
use Rattle.als_frames.specs.Frames.{frame_of}
use Rattle.als_frames.specs.Images.{synced_lsn, AreFramesOf}
use Rattle.als_dirty.specs.declared.dirty_page.DirtyPage.{DirtyPage}
use Rattle.als_dirty.specs.Images.{first_lsn}
use Rattle.als_dirty.specs.Entries.{untouched_page, entry_of, first_of, after_record}
use Rattle.als_dirty.proofs.ImageSteps.{changes_above-other}
use Rattle.als_pool.specs.Queues.{pending_of, above}
use Rattle.als_pool.specs.Pooled.{Pooled, unread_of}
use Rattle.als_pool.specs.Outcomes.{with_change}
use Rattle.als_pool.specs.Images.{IsQueueOf, QueuesOf, LacksFrom, AllLackFrom, IsPageOf, IsPoolOf}
use Rattle.als_pool.proofs.Waiting.{above-last}
use Rattle.als_pool.specs.Restart.{at_first, row_in, or_from, or_first, IsUnreadRow, HasRowsFrom, IsRowBelow}
use Rattle.als_pool.proofs.PageSteps.{more_waits, pushed-row, change_lsn}
use Rattle.als_pool.proofs.StartRows.{row-under}

-- what waits for a page with this row, as a front of the log has it
abbrev IsQueued : List Record → ℕ → DirtyPage → List Change → Option Lsn → Type 0
IsQueued front page e w u = MatchOption u ⊥ (λ from. IsQueueOf front page e w from)

queue-cong : (front : List Record) (p : ℕ) (e e' : DirtyPage) (w w' : List Change) (u : Option Lsn) → e' ≡ e → w' ≡ w → IsQueued front p e w u → IsQueued front p e' w' u
queue-cong front p e e' w w' u ee we h = subst (λ (x : DirtyPage). IsQueued front p x w' u) (sym ee) (subst (λ (x : List Change). IsQueued front p e x u) (sym we) h)

module _ (front : List Record) (r : Record) (placed : r.lsn.0 ≡ end_of front) where
  -- a change at or above the LSN from which on they wait
  pushed-queue : (c : Change) (e : DirtyPage) (w : List Change) (u : Option Lsn) → change_of r ≡ Some c → MatchOption u ⊥ (λ from. from.0 ≤ c.lsn.0) → IsQueued front c.key.page e w u
      → IsQueued (front ++ r ∷ []) c.key.page (after_record e c.lsn) (w ++ c ∷ []) u
  pushed-queue c e w None is le h = h
  pushed-queue c e w (Some from) is le h =
      let at : c.lsn.0 ≡ end_of front = ap (λ (l : Lsn). l.0) (change_lsn r c is) ∙ placed in
      let low : from.0 - 1 < end_of front = omega (arith, h.first, le, at) in
      record {
        first = h.first;
        wait = ap (λ (cs : List Change). w ++ cs) (sym (changes_on-same c.key.page r c is refl)) ∙ more_waits front r placed c.key.page (from.0 - 1) w low h.wait;
        row = pushed-row front r placed c from e w h.row;
        one = ap (λ (n : Option Lsn). first_of n c.lsn) h.one;
      }

  -- a record that does not change the page
  other-queue : (p : ℕ) (e : DirtyPage) (w : List Change) (u : Option Lsn) → changes_on p (r ∷ []) ≡ [] → IsQueued front p e w u → IsQueued (front ++ r ∷ []) p e w u
  other-queue p e w None none h = h
  other-queue p e w (Some from) none h = record { first = h.first; wait = h.wait ∙ sym (changes_above-other front r p (from.0 - 1) none); row = h.row; one = h.one }

  -- a change below that LSN
  below-log : (c : Change) (low : ℕ) → change_of r ≡ Some c → c.lsn.0 ≤ low → changes_above (front ++ r ∷ []) c.key.page low ≡ changes_above front c.key.page low
  unfolding changes_above
  below-log c low is le =
      ap (above low) (changes_on-append c.key.page front (r ∷ []) ∙ ap (λ (cs : List Change). changes_on c.key.page front ++ cs) (changes_on-same c.key.page r c is refl))
      ∙ above-last low (changes_on c.key.page front) c le

  below-queue : (c : Change) (e : DirtyPage) (w : List Change) (u : Option Lsn) → change_of r ≡ Some c → MatchOption u ⊥ (λ from. c.lsn.0 < from.0) → IsQueued front c.key.page e w u
      → IsQueued (front ++ r ∷ []) c.key.page e w u
  below-queue c e w None is lt h = h
  below-queue c e w (Some from) is lt h =
      let le : c.lsn.0 ≤ from.0 - 1 = omega (arith, lt) in
      record { first = h.first; wait = h.wait ∙ sym (below-log c (from.0 - 1) is le); row = h.row; one = h.one }

  -- a change is routed
  pub reads-route : (old : Pooled) (c : Change) → c.key.page < length old.waits → change_of r ≡ Some c
      → MatchOption (unread_of old.unread c.key.page) ⊥ (λ from. from.0 ≤ c.lsn.0) → QueuesOf front old → QueuesOf (front ++ r ∷ []) (with_change old c)
  reads-route old c inside is le h = record {
    tabled = length-set old.dirty c.key.page e' ∙ h.tabled ∙ sym (length-set old.waits c.key.page w');
    each = each;
  }
    where
      e' : DirtyPage
      e' = after_record (entry_of old.dirty c.key.page) c.lsn

      w' : List Change
      w' = pending_of old.waits c.key.page ++ c ∷ []

      each : (p : ℕ) → p < length (slice_set old.waits c.key.page w') → IsQueued (front ++ r ∷ []) p (entry_of (slice_set old.dirty c.key.page e') p) (pending_of (slice_set old.waits c.key.page w') p) (unread_of old.unread p)
      each p lt' = elim (cases_eq p c.key.page) [
        | inl same ↦
            subst (λ (k : ℕ). IsQueued (front ++ r ∷ []) k (entry_of (slice_set old.dirty c.key.page e') k) (pending_of (slice_set old.waits c.key.page w') k) (unread_of old.unread k)) (sym same)
            (queue-cong (front ++ r ∷ []) c.key.page e' (entry_of (slice_set old.dirty c.key.page e') c.key.page) w' (pending_of (slice_set old.waits c.key.page w') c.key.page) (unread_of old.unread c.key.page)
            (get_or-set_same old.dirty c.key.page e' untouched_page (omega (arith, inside, h.tabled))) (get_or-set_same old.waits c.key.page w' [] inside)
            (pushed-queue c (entry_of old.dirty c.key.page) (pending_of old.waits c.key.page) (unread_of old.unread c.key.page) is le (h.each c.key.page inside)))
        | inr ne ↦
            let lt : p < length old.waits = omega (arith, length-set old.waits c.key.page w', lt') in
            let apart : c.key.page ≡ p → ⊥ = λ (is' : c.key.page ≡ p). ne (sym is') in
            queue-cong (front ++ r ∷ []) p (entry_of old.dirty p) (entry_of (slice_set old.dirty c.key.page e') p) (pending_of old.waits p) (pending_of (slice_set old.waits c.key.page w') p) (unread_of old.unread p)
            (get_or-set_other old.dirty c.key.page p e' untouched_page ne) (get_or-set_other old.waits c.key.page p w' [] ne)
            (other-queue p (entry_of old.dirty p) (pending_of old.waits p) (unread_of old.unread p) (changes_on-other p r c is apart) (h.each p lt))
      ]

  -- a record that waits nowhere
  pub reads-other : (v : Pooled) → change_of r ≡ None → QueuesOf front v → QueuesOf (front ++ r ∷ []) v
  reads-other v none h = record {
    tabled = h.tabled;
    each = λ p lt. other-queue p (entry_of v.dirty p) (pending_of v.waits p) (unread_of v.unread p) (changes_on-none p r none) (h.each p lt);
  }

  pub reads-below : (v : Pooled) (c : Change) → change_of r ≡ Some c → MatchOption (unread_of v.unread c.key.page) ⊥ (λ from. c.lsn.0 < from.0) → QueuesOf front v → QueuesOf (front ++ r ∷ []) v
  reads-below v c is low h = record { tabled = h.tabled; each = each }
    where
      each : (p : ℕ) → p < length v.waits → IsQueued (front ++ r ∷ []) p (entry_of v.dirty p) (pending_of v.waits p) (unread_of v.unread p)
      each p lt = elim (cases_eq p c.key.page) [
        | inl same ↦
            subst (λ (k : ℕ). IsQueued (front ++ r ∷ []) k (entry_of v.dirty k) (pending_of v.waits k) (unread_of v.unread k)) (sym same)
            (below-queue c (entry_of v.dirty c.key.page) (pending_of v.waits c.key.page) (unread_of v.unread c.key.page) is low
            (subst (λ (k : ℕ). IsQueued front k (entry_of v.dirty k) (pending_of v.waits k) (unread_of v.unread k)) same (h.each p lt)))
        | inr ne ↦ other-queue p (entry_of v.dirty p) (pending_of v.waits p) (unread_of v.unread p) (changes_on-other p r c is (λ (is' : c.key.page ≡ p). ne (sym is'))) (h.each p lt)
      ]

-- the whole log was read
module _ (position : Lsn) (rows : List LoggedPage) where
  -- a row that the checkpoint gave is below the log's end
  row-low : (end : ℕ) (given : Option Lsn) (e : DirtyPage) (w : List Change) (from : Lsn) → IfSome given (λ row. row.0 < end) → from ≡ or_from given (at_first position) → e.synced ≡ or_first given (first_lsn w)
      → ((e.synced ≡ Some from) × (from.0 < end)) ⊎ (e.synced ≡ first_lsn w)
  row-low end None e w from low start row = inr row
  row-low end (Some g) e w from low start row =
      let lt : from.0 < end = omega (arith, low, ap (λ (l : Lsn). l.0) start) in
      inl (row ∙ ap (λ (l : Lsn). Some l) (sym start), lt)

  joined : (log : List Record) (v : Pooled) (p : ℕ) (u : Option Lsn) → IfSome (row_in rows p) (λ row. row.0 < end_of log) → IsQueued log p (entry_of v.dirty p) (pending_of v.waits p) u
      → MatchOption u ⊥ (λ from. LacksFrom log p (frame_of v.frames p) (synced_lsn v.frames p) from)
      → MatchOption u (Unit {0}) (λ from. IsUnreadRow position (row_in rows p) (frame_of v.frames p) (entry_of v.dirty p) (pending_of v.waits p) from)
      → IsPageOf log p (frame_of v.frames p) (synced_lsn v.frames p) (entry_of v.dirty p) (pending_of v.waits p) u
  joined log v p None low h lacks given = absurd h
  joined log v p (Some from) low h lacks given = record {
    absent = lacks.absent;
    first = h.first;
    reached = lacks.reached;
    lacks = lacks.lacks;
    wait = h.wait;
    row = row-low (end_of log) (row_in rows p) (entry_of v.dirty p) (pending_of v.waits p) from low given.start given.row;
    one = h.one;
  }

  pub reads-all : (log : List Record) (below : ℕ) (v : Pooled) → position.0 ≤ end_of log → AllByRecursion (IsRowBelow position) rows → HasRowsFrom position rows v
      → AreFramesOf log (synced_lsn v.frames) below v.frames → QueuesOf log v → AllLackFrom log v → IsPoolOf log below v
  reads-all log below v reached listed given are h lacks = record {
    paged = given.paged;
    tabled = h.tabled;
    told = given.told;
    frames = are;
    each = λ p lt. joined log v p (unread_of v.unread p) (row-under rows position p (end_of log) reached listed) (h.each p lt) (lacks p lt) (given.each p lt);
  }
