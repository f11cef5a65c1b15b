-- What a judgement means.
use Rattle.std.proofs.Common.{◌≡◌, ℕ, ◌≤◌, ◌<◌, ◌++◌, Bool, true, false, cond, List, [], ◌∷◌, length, drop, refl, sym, ap, subst, ◌∙◌, arith, inl, inr, append-nil, Option, Ok, Err}
use Rattle.std.specs.Prelude.{◌⊎◌, slice_get, nat_lt}
use Rattle.std.proofs.lemmas.Slice.Eq.{starts_is}
use Rattle.std.proofs.lemmas.Bool.Decides.{Decides-eqb, Decides-ltb}
use Rattle.std.proofs.lemmas.List.{drop_all}
use Rattle.std.proofs.lemmas.Bool.{cases_Bool, cases_lt, false≢true}
use Rattle.als_epochs.specs.declared.fault.Fault.TheVariants.{OtherEpoch, Diverged}
use Rattle.als_epochs.specs.declared.step.Step.TheVariants.{Adopt}
use Rattle.als_epochs.specs.Histories.{GoesOn, is_front, next_seal, IsHistory, RisesFrom, last_from}
use Rattle.als_epochs.specs.HistoryLaws.{next_seal-behind, RisesFrom-parts, RisesFrom-joined}
use Rattle.als_epochs.specs.Judging.{judged, judged_next, Judges}

-- a test of order, by cases
below_or_not : (m n : ℕ) → ((nat_lt m n ≡ true) × (m < n)) ⊎ ((nat_lt m n ≡ false) × (n ≤ m))
below_or_not m n =
    elim (cases_Bool (nat_lt m n)) [
      | inl holds ↦ inl (holds, (Decides-ltb m n).0 holds)
      | inr other ↦
          elim (cases_lt m n) [
            | inl below ↦ absurd (false≢true (sym other ∙ (Decides-ltb m n).1 below))
            | inr above ↦ inr (other, above)
          ]
    ]

judged-goes_on : (own offered rest : List ℕ) (end : ℕ) → offered ≡ own ++ rest → Judges own offered end (judged_next (slice_get rest 0) end)
judged-goes_on own offered [] end is = is ∙ append-nil own
judged-goes_on own offered (seal ∷ rest) end is =
    let P : Bool → Type 0 = λ b. Judges own offered end (cond b (Err (Diverged (record { 0 = seal }))) (Ok Adopt)) in
    elim (below_or_not seal end) [
      | inl (holds, past) ↦ subst P (sym holds) (rest, is, past)
      | inr (other, within) ↦ subst P (sym other) (seal, rest, is, within)
    ]

-- what follows the seals of a rising list, and is itself an LSN
rises-behind : (own : List ℕ) (seal : ℕ) (rest : List ℕ) → RisesFrom 16 own → RisesFrom (last_from 0 own) (seal ∷ rest) → 16 ≤ seal → RisesFrom 16 (own ++ seal ∷ rest)
rises-behind [] seal rest rises behind low = (low, behind.1)
rises-behind (x ∷ own) seal rest rises behind low = (rises.0, RisesFrom-joined x own (seal ∷ rest) rises.1 behind)

pub judged-means : (own offered : List ℕ) (end : ℕ) → Judges own offered end (judged own offered end)
unfolding judged
judged-means own offered end =
    let fronts = starts_is Decides-eqb offered own (is_front own offered) refl in
    let P : Bool → Type 0 = λ b. Judges own offered end (cond b (judged_next (next_seal own offered) end) (Err (OtherEpoch (length offered)))) in
    elim (cases_Bool (is_front own offered)) [
      | inl holds ↦
          let is : offered ≡ own ++ drop (length own) offered = fronts.0 holds in
          let next : next_seal own offered ≡ slice_get (drop (length own) offered) 0 = next_seal-behind own offered (drop (length own) offered) is in
          subst P (sym holds) (subst (λ (o : Option ℕ). Judges own offered end (judged_next o end)) (sym next)
          (judged-goes_on own offered (drop (length own) offered) end is))
      | inr other ↦
          let none : GoesOn own offered → ⊥ = λ (rest, is). false≢true (sym other ∙ fronts.1 rest is) in
          subst P (sym other) (none, refl)
    ]

-- a history that is adopted behind seals that are LSNs, by a log that ends at one
pub adopted-rises : (own offered : List ℕ) (end : ℕ) → IsHistory offered → RisesFrom 16 own → 16 ≤ end
    → judged own offered end ≡ Ok Adopt → RisesFrom 16 offered
adopted-rises own offered end history rises low adopted =
    let means : Judges own offered end (Ok Adopt) = subst (Judges own offered end) adopted (judged-means own offered end) in
    let (seal, rest, is, within) = means in
    let all : RisesFrom 0 (own ++ seal ∷ rest) = subst (RisesFrom 0) is history.rises in
    let parts : RisesFrom 0 own × RisesFrom (last_from 0 own) (seal ∷ rest) = RisesFrom-parts 0 own (seal ∷ rest) all in
    subst (RisesFrom 16) (sym is) (rises-behind own seal rest rises parts.1 (omega (arith, low, within)))

-- a history as long as one that is a front of it
pub same-front : (xs ys : List ℕ) → length xs ≡ length ys → (is_front ys xs ≡ true → xs ≡ ys) × (xs ≡ ys → is_front ys xs ≡ true)
same-front xs ys len =
    let fronts = starts_is Decides-eqb xs ys (is_front ys xs) refl in
    let none : drop (length ys) xs ≡ [] = drop_all (length ys) xs (omega (arith, len)) in
    (λ holds. fronts.0 holds ∙ ap (λ (zs : List ℕ). ys ++ zs) none ∙ append-nil ys, λ same. fronts.1 [] (same ∙ sym (append-nil ys)))
