-- Changes above an LSN: those that a page which was read still lacks.
use Rattle.std.proofs.Common.{◌≡◌, ℕ, suc, ◌<◌, ◌≤◌, List, [], ◌∷◌, ◌++◌, drop, nat_lt, nat_le, refl, sym, ap, subst, ◌∙◌, arith, inl, inr, lt-ltb, le-ltb}
use Rattle.std.specs.List.{AllByRecursion}
use Rattle.std.proofs.lemmas.Bool.{cases_lt, cond-true, cond-false, lt-leb, le-leb}
use Rattle.als_record.specs.declared.lsn.Lsn.{Lsn}
use Rattle.als_record.specs.declared.change.Change.{Change}
use Rattle.als_record.specs.declared.record.Record.{Record}
use Rattle.als_record.specs.Pages.{changes_on, changes_above, lsn_after, IsChangeAbove}
use Rattle.als_page.specs.Changes.{AreNext}
use Rattle.als_lease.specs.Queue.{count_up_to}
use Rattle.als_pool.specs.Queues.{above}

above-in : (lsn : ℕ) (c : Change) (cs : List Change) → lsn < c.lsn.0 → above lsn (c ∷ cs) ≡ c ∷ above lsn cs
above-in lsn c cs lt = cond-true (nat_lt lsn c.lsn.0) (c ∷ above lsn cs) (above lsn cs) (lt-ltb lsn c.lsn.0 lt)

above-out : (lsn : ℕ) (c : Change) (cs : List Change) → c.lsn.0 ≤ lsn → above lsn (c ∷ cs) ≡ above lsn cs
above-out lsn c cs le = cond-false (nat_lt lsn c.lsn.0) (c ∷ above lsn cs) (above lsn cs) (le-ltb lsn c.lsn.0 le)

-- those above an LSN, of those above another one, where all above the one are above the other
pub above-above : (low lsn : ℕ) (cs : List Change) → AllByRecursion (λ c. low < c.lsn.0) (above lsn cs) → above lsn (above low cs) ≡ above lsn cs
above-above low lsn [] all = refl
above-above low lsn (c ∷ cs) all =
    elim (cases_lt lsn c.lsn.0) [
      | inl lt ↦
          let both : AllByRecursion (λ d. low < d.lsn.0) (c ∷ above lsn cs) = subst (λ (ds : List Change). AllByRecursion (λ d. low < d.lsn.0) ds) (above-in lsn c cs lt) all in
          ap (above lsn) (above-in low c cs both.0) ∙ above-in lsn c (above low cs) lt ∙ ap (λ (ds : List Change). c ∷ ds) (above-above low lsn cs both.1) ∙ sym (above-in lsn c cs lt)
      | inr le ↦
          let rest : AllByRecursion (λ d. low < d.lsn.0) (above lsn cs) = subst (λ (ds : List Change). AllByRecursion (λ d. low < d.lsn.0) ds) (above-out lsn c cs le) all in
          let then' : above lsn (above low cs) ≡ above lsn (c ∷ cs) = above-above low lsn cs rest ∙ sym (above-out lsn c cs le) in
          elim (cases_lt low c.lsn.0) [
            | inl lt' ↦ ap (above lsn) (above-in low c cs lt') ∙ above-out lsn c (above low cs) le ∙ then'
            | inr le' ↦ ap (above lsn) (above-out low c cs le') ∙ then'
          ]
    ]

pub all-above : (lsn : ℕ) (cs : List Change) → AllByRecursion (λ c. lsn < c.lsn.0) (above lsn cs)
all-above lsn [] = tt
all-above lsn (c ∷ cs) =
    elim (cases_lt lsn c.lsn.0) [
      | inl lt ↦ rw (above-in lsn c cs lt) (lt, all-above lsn cs)
      | inr le ↦ rw (above-out lsn c cs le) (all-above lsn cs)
    ]

-- in a log
pub above-log : (log : List Record) (page low lsn : ℕ) → AllByRecursion (λ c. low < c.lsn.0) (changes_above log page lsn) → above lsn (changes_above log page low) ≡ changes_above log page lsn
unfolding changes_above
above-log log page low lsn all = above-above low lsn (changes_on page log) all

pub above-same : (log : List Record) (page lsn : ℕ) → above lsn (changes_above log page lsn) ≡ changes_above log page lsn
unfolding changes_above
above-same log page lsn = above-above lsn lsn (changes_on page log) (all-above lsn (changes_on page log))

pub all-lower : (low from : ℕ) (cs : List Change) → low < from → AllByRecursion (λ c. from ≤ c.lsn.0) cs → AllByRecursion (λ c. low < c.lsn.0) cs
all-lower low from [] lt all = tt
all-lower low from (c ∷ cs) lt all = let here : low < c.lsn.0 = omega (arith, lt, all.0) in (here, all-lower low from cs lt all.1)

above-all : (lsn : ℕ) (cs : List Change) → AllByRecursion (λ c. lsn < c.lsn.0) cs → above lsn cs ≡ cs
above-all lsn [] all = refl
above-all lsn (c ∷ cs) all = above-in lsn c cs all.0 ∙ ap (λ (ds : List Change). c ∷ ds) (above-all lsn cs all.1)

all-below : (low lsn : ℕ) (cs : List Change) → lsn ≤ low → AllByRecursion (λ c. low < c.lsn.0) cs → AllByRecursion (λ c. lsn < c.lsn.0) cs
all-below low lsn [] le all = tt
all-below low lsn (c ∷ cs) le all = let here : lsn < c.lsn.0 = omega (arith, le, all.0) in (here, all-below low lsn cs le all.1)

all-log : (log : List Record) (page low : ℕ) → AllByRecursion (λ c. low < c.lsn.0) (changes_above log page low)
unfolding changes_above
all-log log page low = all-above low (changes_on page log)

-- where a log has no change of a page between two LSNs, it has the same above both
pub none-between : (log : List Record) (page low lsn : ℕ) → lsn ≤ low → AllByRecursion (λ c. low < c.lsn.0) (changes_above log page lsn) → changes_above log page low ≡ changes_above log page lsn
none-between log page low lsn le all =
    sym (above-all lsn (changes_above log page low) (all-below low lsn (changes_above log page low) le (all-log log page low))) ∙ above-log log page low lsn all

-- ---- by counting

-- changes above an LSN are all above a lower one
none-out : (page low lsn : ℕ) (cs : List Change) → lsn ≤ low → AreNext page low cs → above lsn cs ≡ cs
none-out page low lsn [] le h = refl
none-out page low lsn (c ∷ cs) le h =
    let lt : lsn < c.lsn.0 = omega (arith, le, h.3) in
    let le' : lsn ≤ c.lsn.0 = omega (arith, lt) in
    above-in lsn c cs lt ∙ ap (λ (ds : List Change). c ∷ ds) (none-out page c.lsn.0 lsn cs le' h.4)

-- of changes in rising order the first up to an LSN go
pub drop-above : (page low : ℕ) (lsn : Lsn) (cs : List Change) → AreNext page low cs → drop (count_up_to lsn cs) cs ≡ above lsn.0 cs
drop-above page low lsn [] h = refl
drop-above page low lsn (c ∷ cs) h =
    elim (cases_lt lsn.0 c.lsn.0) [
      | inl lt ↦
          let le : lsn.0 ≤ c.lsn.0 = omega (arith, lt) in
          rw (count-none lsn c cs lt) (sym (above-in lsn.0 c cs lt ∙ ap (λ (ds : List Change). c ∷ ds) (none-out page c.lsn.0 lsn.0 cs le h.4)))
      | inr le ↦ rw (count-one lsn c cs le) (drop-above page c.lsn.0 lsn cs h.4 ∙ sym (above-out lsn.0 c cs le))
    ]
  where
    count-none : (lsn : Lsn) (c : Change) (cs : List Change) → lsn.0 < c.lsn.0 → count_up_to lsn (c ∷ cs) ≡ 0
    count-none lsn c cs lt = cond-false (nat_le c.lsn.0 lsn.0) (suc (count_up_to lsn cs)) 0 (lt-leb c.lsn.0 lsn.0 lt)

    count-one : (lsn : Lsn) (c : Change) (cs : List Change) → c.lsn.0 ≤ lsn.0 → count_up_to lsn (c ∷ cs) ≡ suc (count_up_to lsn cs)
    count-one lsn c cs le = cond-true (nat_le c.lsn.0 lsn.0) (suc (count_up_to lsn cs)) 0 (le-leb c.lsn.0 lsn.0 le)

-- what is above an LSN can be redone from there
pub next-above : (page low lsn : ℕ) (cs : List Change) → AreNext page low cs → AreNext page lsn (above lsn cs)
next-above page low lsn [] h = tt
next-above page low lsn (c ∷ cs) h =
    elim (cases_lt lsn c.lsn.0) [
      | inl lt ↦
          let le : lsn ≤ c.lsn.0 = omega (arith, lt) in
          rw (above-in lsn c cs lt ∙ ap (λ (ds : List Change). c ∷ ds) (none-out page c.lsn.0 lsn cs le h.4)) (h.0, h.1, h.2, lt, h.4)
      | inr le ↦ rw (above-out lsn c cs le) (next-above page c.lsn.0 lsn cs h.4)
    ]

pub next_lower : (page low lsn : ℕ) (cs : List Change) → AreNext page low cs → lsn ≤ low → AreNext page lsn cs
next_lower page low lsn [] h le = tt
next_lower page low lsn (c ∷ cs) h le = let above' : lsn < c.lsn.0 = omega (arith, h.3) in (h.0, h.1, h.2, above', h.4)

-- the changes behind the first ones
pub next_behind : (page lsn : ℕ) (front rest : List Change) → AreNext page lsn (front ++ rest) → AreNext page (lsn_after lsn front) rest
next_behind page lsn [] rest h = h
next_behind page lsn (c ∷ front) rest h = next_behind page c.lsn.0 front rest h.4

pub next_front : (page lsn : ℕ) (front rest : List Change) → AreNext page lsn (front ++ rest) → AreNext page lsn front
next_front page lsn [] rest h = tt
next_front page lsn (c ∷ front) rest h = (h.0, h.1, h.2, h.3, next_front page c.lsn.0 front rest h.4)

-- a last change that is not above an LSN
pub above-last : (lsn : ℕ) (cs : List Change) (c : Change) → c.lsn.0 ≤ lsn → above lsn (cs ++ c ∷ []) ≡ above lsn cs
above-last lsn [] c le = above-out lsn c [] le
above-last lsn (d ∷ cs) c le =
    elim (cases_lt lsn d.lsn.0) [
      | inl lt ↦ above-in lsn d (cs ++ c ∷ []) lt ∙ ap (λ (ds : List Change). d ∷ ds) (above-last lsn cs c le) ∙ sym (above-in lsn d cs lt)
      | inr ge ↦ above-out lsn d (cs ++ c ∷ []) ge ∙ above-last lsn cs c le ∙ sym (above-out lsn d cs ge)
    ]

-- ---- how far changes go

-- those above an LSN go no further
pub last-above : (page low lsn end : ℕ) (cs : List Change) → AreNext page low cs → lsn < end → lsn_after low cs < end → lsn_after lsn (above lsn cs) < end
last-above page low lsn end [] h lt last = lt
last-above page low lsn end (c ∷ cs) h lt last =
    elim (cases_lt lsn c.lsn.0) [
      | inl lt' ↦
          let le : lsn ≤ c.lsn.0 = omega (arith, lt') in
          rw (above-in lsn c cs lt' ∙ ap (λ (ds : List Change). c ∷ ds) (none-out page c.lsn.0 lsn cs le h.4)) last
      | inr le ↦ rw (above-out lsn c cs le) (last-above page c.lsn.0 lsn end cs h.4 lt last)
    ]

-- nor do they from a lower LSN on
pub last-lower : (low lsn end : ℕ) (cs : List Change) → lsn ≤ low → lsn_after low cs < end → lsn_after lsn cs < end
last-lower low lsn end [] le last = omega (arith, le, last)
last-lower low lsn end (c ∷ cs) le last = last

pub last-append : (lsn : ℕ) (front rest : List Change) → lsn_after lsn (front ++ rest) ≡ lsn_after (lsn_after lsn front) rest
last-append lsn [] rest = refl
last-append lsn (c ∷ front) rest = last-append c.lsn.0 front rest

-- changes of a log stay below its end
pub last-under : (page low lsn end : ℕ) (cs : List Change) → AllByRecursion (IsChangeAbove page low end) cs → lsn < end → lsn_after lsn cs < end
last-under page low lsn end [] each lt = lt
last-under page low lsn end (c ∷ cs) each lt = last-under page low c.lsn.0 end cs each.1 each.0.last

-- one more change behind the others
pub next-push : (page lsn : ℕ) (cs : List Change) (c : Change) → AreNext page lsn cs → c.key.page ≡ page → c.key.slot ≤ 14 → 16 ≤ c.lsn.0 → lsn_after lsn cs < c.lsn.0 → AreNext page lsn (cs ++ c ∷ [])
next-push page lsn [] c h of slot first lt = (of, slot, first, lt, tt)
next-push page lsn (d ∷ cs) c h of slot first lt = (h.0, h.1, h.2, h.3, next-push page d.lsn.0 cs c h.4 of slot first lt)
