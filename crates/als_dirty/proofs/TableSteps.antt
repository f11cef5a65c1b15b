-- The dirty pages of a log, as one entry changes or the log goes on.
use Rattle.std.proofs.Common.{◌≡◌, ℕ, ◌<◌, ◌≤◌, List, [], ◌∷◌, ◌++◌, length, get_or, Option, Some, None, replicate, map, refl, ap, sym, subst, ◌∙◌, arith, length-set, inl, inr}
use Rattle.std.specs.Prelude.{slice_set}
use Rattle.std.proofs.lemmas.Option.{slice_get_read, get_or_from_slice_get}
use Rattle.std.proofs.lemmas.Bool.{cases_eq}
use Rattle.std.proofs.lemmas.List.{length-map, length-replicate, get_or-map, get_or-set_same, get_or-set_other, get_or-replicate}
use Rattle.als_record.specs.declared.lsn.Lsn.{Lsn}
use Rattle.als_record.specs.declared.change.Change.{Change}
use Rattle.als_record.specs.declared.record.Record.{Record}
use Rattle.als_record.specs.LogText.{end_of}
use Rattle.als_record.specs.Pages.{change_of, changes_on}
use Rattle.als_record.proofs.PageLaws.{changes_on-none, changes_on-other, changes_above-nil}
use Rattle.als_dirty.specs.declared.dirty_page.DirtyPage.{DirtyPage}
use Rattle.als_dirty.specs.Entries.{untouched_page, entry_of, after_record, after_write, after_sync, after_load}
use Rattle.als_dirty.specs.Images.{first_lsn, IsFirstLacked, IsDirtyPageOf, AreDirtyPagesOf}
use Rattle.als_dirty.proofs.ImageSteps.{lacked-push, lacked-other}

-- the element that an index gave
pub entry_at : (pages : List DirtyPage) (page : ℕ) (e : DirtyPage) → page < length pages → e ≡ get_or pages page e → entry_of pages page ≡ e
entry_at pages page e lt is = get_or_from_slice_get pages page e untouched_page (slice_get_read pages (length pages) page e refl lt is)

-- the entry that was set
pub entry_set : (pages : List DirtyPage) (page : ℕ) (e : DirtyPage) → page < length pages → entry_of (slice_set pages page e) page ≡ e
entry_set pages page e inside = get_or-set_same pages page e untouched_page inside

-- ---- one page

-- a record that changes it
pub page-push : (log : List Record) (r : Record) (c : Change) (synced written : ℕ) (e : DirtyPage) → r.lsn.0 ≡ end_of log → change_of r ≡ Some c
    → IsDirtyPageOf log c.key.page synced written e → IsDirtyPageOf (log ++ r ∷ []) c.key.page synced written (after_record e c.lsn)
page-push log r c synced written e at is h = record {
  synced_first = lacked-push log r c synced e.synced at is h.synced_first;
  written_first = lacked-push log r c written e.written at is h.written_first;
  order = h.order;
}

-- a record that does not
pub page-other : (log : List Record) (r : Record) (page synced written : ℕ) (e : DirtyPage) → changes_on page (r ∷ []) ≡ []
    → IsDirtyPageOf log page synced written e → IsDirtyPageOf (log ++ r ∷ []) page synced written e
page-other log r page synced written e none h = record {
  synced_first = lacked-other log r page synced e.synced none h.synced_first;
  written_first = lacked-other log r page written e.written none h.written_first;
  order = h.order;
}

-- a write
pub page-write : (log : List Record) (page synced written lsn : ℕ) (e : DirtyPage) (next : Option Lsn) → IsDirtyPageOf log page synced written e → written ≤ lsn
    → IsFirstLacked log page lsn next → IsDirtyPageOf log page synced lsn (after_write e next)
page-write log page synced written lsn e next h le is = record { synced_first = h.synced_first; written_first = is; order = omega (arith, h.order, le) }

-- a sync
pub page-sync : (log : List Record) (page synced written : ℕ) (e : DirtyPage) → IsDirtyPageOf log page synced written e → IsDirtyPageOf log page written written (after_sync e)
page-sync log page synced written e h = record { synced_first = h.written_first; written_first = h.written_first; order = omega arith }

-- a read of the only image
pub page-load : (log : List Record) (page lsn : ℕ) (next : Option Lsn) → IsFirstLacked log page lsn next → IsDirtyPageOf log page lsn lsn (after_load next)
page-load log page lsn next h = record { synced_first = h; written_first = h; order = omega arith }

-- ---- all pages

-- one entry is new, and of the others it is known already
pub set_kept : (log : List Record) (synced written : ℕ → ℕ) (pages : List DirtyPage) (page : ℕ) (e : DirtyPage) → page < length pages
    → ((p : ℕ) → p < length pages → (p ≡ page → ⊥) → IsDirtyPageOf log p (synced p) (written p) (entry_of pages p))
    → IsDirtyPageOf log page (synced page) (written page) e → AreDirtyPagesOf log synced written (slice_set pages page e)
set_kept log synced written pages page e inside others here = λ p lt.
    let there : p < length pages = omega (arith, length-set pages page e, lt) in
    elim (cases_eq page p) [
      | inl same ↦
          subst (λ (q : ℕ). IsDirtyPageOf log q (synced q) (written q) (entry_of (slice_set pages page e) q)) same
          (subst (λ (x : DirtyPage). IsDirtyPageOf log page (synced page) (written page) x) (sym (get_or-set_same pages page e untouched_page inside)) here)
      | inr apart ↦
          let ne : p ≡ page → ⊥ = λ (same : p ≡ page). apart (sym same) in
          subst (λ (x : DirtyPage). IsDirtyPageOf log p (synced p) (written p) x) (sym (get_or-set_other pages page p e untouched_page ne)) (others p there ne)
    ]

-- a record that changes a page
pub routed_kept : (log : List Record) (r : Record) (c : Change) (synced written : ℕ → ℕ) (pages : List DirtyPage) (page : ℕ) (e : DirtyPage) → page < length pages
    → AreDirtyPagesOf log synced written pages → r.lsn.0 ≡ end_of log → change_of r ≡ Some c → c.key.page ≡ page → e ≡ after_record (entry_of pages page) c.lsn
    → AreDirtyPagesOf (log ++ r ∷ []) synced written (slice_set pages page e)
routed_kept log r c synced written pages page e inside h at is on e-is =
    set_kept (log ++ r ∷ []) synced written pages page e inside
    (λ p lt ne. page-other log r p (synced p) (written p) (entry_of pages p) (changes_on-other p r c is (λ same. ne (sym same ∙ on))) (h p lt))
    (rw e-is
    (subst (λ (q : ℕ). IsDirtyPageOf log q (synced page) (written page) (entry_of pages page) → IsDirtyPageOf (log ++ r ∷ []) q (synced page) (written page) (after_record (entry_of pages page) c.lsn)) on
    (page-push log r c (synced page) (written page) (entry_of pages page) at is) (h page inside)))

-- a record that changes none
pub other_kept : (log : List Record) (r : Record) (synced written : ℕ → ℕ) (pages : List DirtyPage) → change_of r ≡ None → AreDirtyPagesOf log synced written pages
    → AreDirtyPagesOf (log ++ r ∷ []) synced written pages
other_kept log r synced written pages none h = λ p lt. page-other log r p (synced p) (written p) (entry_of pages p) (changes_on-none p r none) (h p lt)

-- a sync
pub synced_kept : (log : List Record) (synced written : ℕ → ℕ) (old new : List DirtyPage) → new ≡ map after_sync old → AreDirtyPagesOf log synced written old
    → AreDirtyPagesOf log written written new
synced_kept log synced written old new is h = rw is (λ p lt.
    let inside : p < length old = omega (arith, length-map old after_sync, lt) in
    rw (get_or-map after_sync old p untouched_page untouched_page inside) (page-sync log p (synced p) (written p) (entry_of old p) (h p inside)))

-- pages that no record has changed
pub empty_kept : (count : ℕ) (pages : List DirtyPage) → pages ≡ replicate count untouched_page → AreDirtyPagesOf [] (λ _. 0) (λ _. 0) pages
unfolding end_of
empty_kept count pages is = rw is (λ p lt.
    let inside : p < count = omega (arith, length-replicate {A = DirtyPage}, lt) in
    let none : IsFirstLacked [] p 0 None = record { reached = omega arith; first = ap first_lsn (sym (changes_above-nil p 0)) } in
    rw (get_or-replicate count p untouched_page untouched_page inside) (page-load [] p 0 None none))
