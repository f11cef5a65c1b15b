-- What an image lacks, as the log goes on.
use Rattle.std.proofs.Common.{◌≡◌, ℕ, ◌<◌, ◌≤◌, List, [], ◌∷◌, ◌++◌, Option, Some, None, nat_lt, IsTrue, filter, refl, ap, sym, ◌∙◌, arith, append-nil, inl, inr, lt-ltb, le-ltb}
use Rattle.std.specs.List.{AllByRecursion}
use Rattle.std.proofs.lemmas.Bool.{cases_lt, cond-true, cond-false}
use Rattle.als_record.specs.declared.lsn.Lsn.{Lsn}
use Rattle.als_record.specs.declared.change.Change.{Change}
use Rattle.als_record.specs.declared.record.Record.{Record}
use Rattle.als_record.specs.LogText.{end_of, follow_from}
use Rattle.als_record.specs.Pages.{change_of, changes_on, changes_above, IsChangeAbove}
use Rattle.als_record.proofs.PageLaws.{end_of-push, changes_on-append, changes_on-same, changes_above-push, changes_above-cons, changes_above-each}
use Rattle.als_dirty.specs.Entries.{first_of}
use Rattle.als_dirty.specs.Images.{first_lsn, IsFirstLacked}

first_lsn-push : (cs : List Change) (c : Change) → first_lsn (cs ++ c ∷ []) ≡ first_of (first_lsn cs) c.lsn
first_lsn-push [] c = refl
first_lsn-push (d ∷ cs) c = refl

reached-push : (log : List Record) (r : Record) (lsn : ℕ) → lsn < end_of log → lsn < end_of (log ++ r ∷ [])
reached-push log r lsn lt = omega (arith, end_of-push log r, lt)

-- a record that changes the page, at the log's end
pub lacked-push : (log : List Record) (r : Record) (c : Change) (lsn : ℕ) (next : Option Lsn) → r.lsn.0 ≡ end_of log → change_of r ≡ Some c
    → IsFirstLacked log c.key.page lsn next → IsFirstLacked (log ++ r ∷ []) c.key.page lsn (first_of next c.lsn)
lacked-push log r c lsn next at is h =
    let lt : lsn < r.lsn.0 = omega (arith, h.reached, at) in
    record {
      reached = reached-push log r lsn h.reached;
      first = ap (λ (n : Option Lsn). first_of n c.lsn) h.first ∙ sym (first_lsn-push (changes_above log c.key.page lsn) c)
          ∙ ap first_lsn (sym (changes_above-push log r c.key.page lsn lt ∙ ap (λ (cs : List Change). changes_above log c.key.page lsn ++ cs) (changes_on-same c.key.page r c is refl)));
    }

pub changes_above-other : (log : List Record) (r : Record) (page lsn : ℕ) → changes_on page (r ∷ []) ≡ [] → changes_above (log ++ r ∷ []) page lsn ≡ changes_above log page lsn
unfolding changes_above
changes_above-other log r page lsn none =
    ap (λ (cs : List Change). filter (λ change. nat_lt lsn change.lsn.0) cs)
    (changes_on-append page log (r ∷ []) ∙ ap (λ (cs : List Change). changes_on page log ++ cs) none ∙ append-nil (changes_on page log))

-- a record that does not change the page
pub lacked-other : (log : List Record) (r : Record) (page lsn : ℕ) (next : Option Lsn) → changes_on page (r ∷ []) ≡ []
    → IsFirstLacked log page lsn next → IsFirstLacked (log ++ r ∷ []) page lsn next
lacked-other log r page lsn next none h = record {
  reached = reached-push log r lsn h.reached;
  first = h.first ∙ ap first_lsn (sym (changes_above-other log r page lsn none));
}

-- ---- later images lack no more

-- what holds of all changes above an LSN holds of those above a later one
later : (P : Change → Type 0) (low lsn : ℕ) (cs : List Change) → low ≤ lsn → AllByRecursion P (filter (λ change. nat_lt low change.lsn.0) cs)
    → AllByRecursion P (filter (λ change. nat_lt lsn change.lsn.0) cs)
later P low lsn [] le h = tt
later P low lsn (c ∷ cs) le h =
    let above : ℕ → List Change = λ (q : ℕ). filter (λ change. nat_lt q change.lsn.0) cs in
    elim (cases_lt lsn c.lsn.0) [
      | inl lt ↦
          let lt' : low < c.lsn.0 = omega arith in
          let all : AllByRecursion P (c ∷ filter (λ change. nat_lt low change.lsn.0) cs) = rw (cond-true (nat_lt low c.lsn.0) (c ∷ filter (λ change. nat_lt low change.lsn.0) cs) (filter (λ change. nat_lt low change.lsn.0) cs) (lt-ltb low c.lsn.0 lt')) at h in
          rw (cond-true (nat_lt lsn c.lsn.0) (c ∷ filter (λ change. nat_lt lsn change.lsn.0) cs) (filter (λ change. nat_lt lsn change.lsn.0) cs) (lt-ltb lsn c.lsn.0 lt)) (all.0, later P low lsn cs le all.1)
      | inr le' ↦ rw (cond-false (nat_lt lsn c.lsn.0) (c ∷ filter (λ change. nat_lt lsn change.lsn.0) cs) (filter (λ change. nat_lt lsn change.lsn.0) cs) (le-ltb lsn c.lsn.0 le'))
          (elim (cases_lt low c.lsn.0) [
            | inl lt ↦
                let all : AllByRecursion P (c ∷ filter (λ change. nat_lt low change.lsn.0) cs) = rw (cond-true (nat_lt low c.lsn.0) (c ∷ filter (λ change. nat_lt low change.lsn.0) cs) (filter (λ change. nat_lt low change.lsn.0) cs) (lt-ltb low c.lsn.0 lt)) at h in
                later P low lsn cs le all.1
            | inr over ↦
                let all : AllByRecursion P (filter (λ change. nat_lt low change.lsn.0) cs) = rw (cond-false (nat_lt low c.lsn.0) (c ∷ filter (λ change. nat_lt low change.lsn.0) cs) (filter (λ change. nat_lt low change.lsn.0) cs) (le-ltb low c.lsn.0 over)) at h in
                later P low lsn cs le all
          ])
    ]

pub changes_above-later : (P : Change → Type 0) (log : List Record) (page low lsn : ℕ) → low ≤ lsn → AllByRecursion P (changes_above log page low) → AllByRecursion P (changes_above log page lsn)
unfolding changes_above
changes_above-later P log page low lsn le h = later P low lsn (changes_on page log) le h

nothing_is : (cs : List Change) → AllByRecursion (λ c. ⊥) cs → cs ≡ []
nothing_is [] h = refl
nothing_is (c ∷ cs) h = absurd h.0

-- nothing above an LSN, nothing above a later one
pub nothing_later : (log : List Record) (page low lsn : ℕ) (cs : List Change) → low ≤ lsn → changes_above log page low ≡ cs → first_lsn cs ≡ None → changes_above log page lsn ≡ []
nothing_later log page low lsn [] le is none =
    nothing_is (changes_above log page lsn) (changes_above-later (λ c. ⊥) log page low lsn le (rw is tt))
nothing_later log page low lsn (c ∷ cs) le is none = absurd cc

at_least : (first low high : ℕ) (cs : List Change) (page : ℕ) → first ≤ low → AllByRecursion (IsChangeAbove page low high) cs → AllByRecursion (λ c. first ≤ c.lsn.0) cs
at_least first low high [] page le h = tt
at_least first low high (c ∷ cs) page le h = let here : first ≤ c.lsn.0 = omega (arith, h.0.above) in (here, at_least first low high cs page le h.1)

-- the first change above an LSN is the least of those above a later one
pub first_later : (log : List Record) (page low lsn : ℕ) (first : Lsn) (cs : List Change) → IsTrue (follow_from 16 log) → low ≤ lsn → changes_above log page low ≡ cs → first_lsn cs ≡ Some first
    → AllByRecursion (λ c. first.0 ≤ c.lsn.0) (changes_above log page lsn)
first_later log page low lsn first [] h le is some = absurd cc
first_later log page low lsn first (c ∷ cs) h le is some =
    let same : c.lsn ≡ first = cc some in
    let next = changes_above-cons log page low c cs h is in
    let from : c.lsn.0 ≤ c.lsn.0 = omega arith in
    let behind : AllByRecursion (λ (d : Change). c.lsn.0 ≤ d.lsn.0) cs = at_least c.lsn.0 c.lsn.0 (end_of log) cs page from (rw next.changes_then at (changes_above-each log page c.lsn.0 h)) in
    let all : AllByRecursion (λ (d : Change). c.lsn.0 ≤ d.lsn.0) (changes_above log page low) = rw is (from, behind) in
    rw (← same) (changes_above-later (λ (d : Change). c.lsn.0 ≤ d.lsn.0) log page low lsn le all)
