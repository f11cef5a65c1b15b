-- How the blocks that have a choice take the picks of a crash.
use Rattle.std.proofs.Common.{◌≡◌, ◌≢◌, ◌<◌, ◌≤◌, ◌+◌, ℕ, zero, suc, true, false, cond, min, List, [], length, drop, refl, sym, ◌∙◌, ap, arith, length-drop, inl, inr}
use Rattle.std.specs.Prelude.{slice_index, slice_index_or}
use Rattle.std.proofs.lemmas.Grind.{get_or_after_one}
use Rattle.std.proofs.lemmas.Bool.{cases_order, cases_lt}
use Rattle.als_disk.specs.Slot.{Slot, only}
use Rattle.als_disk.specs.Crash.{has_choice, choices_below, pick_of, picked, picked_content}

-- no block below i has a choice
pub record NoneBelow (slots : ℕ → Slot) (i : ℕ) : Type 0 where
  pub none : (j : ℕ) → j < i → has_choice (slots j) ≡ false

-- one block more
choices_below-suc : (slots : ℕ → Slot) (k : ℕ) → choices_below slots (suc k) ≡ choices_below slots k + cond (has_choice (slots k)) 1 0
unfolding choices_below
choices_below-suc slots k = refl

choices_below-zero : (slots : ℕ → Slot) → choices_below slots 0 ≡ 0
unfolding choices_below
choices_below-zero slots = refl

pub choices_below-none : (slots : ℕ → Slot) (i : ℕ) → NoneBelow slots i → choices_below slots i ≡ 0
choices_below-none slots zero none = choices_below-zero slots
choices_below-none slots (suc i) none =
    let earlier : choices_below slots i ≡ 0 = choices_below-none slots i (record { none = λ j lt. none.none j (omega arith) }) in
    let here : has_choice (slots i) ≡ false = none.none i (omega arith) in
    choices_below-suc slots i ∙ rw (here, earlier) refl

-- Block i, the first that had a choice, took the first pick.
pub record TakesFirst (old : ℕ → Slot) (picks : List ℕ) (i : ℕ) (new : ℕ → Slot) : Type 0 where
  pub first : NoneBelow old i
  pub had_choice : has_choice (old i) ≡ true
  pub left : new i ≡ only (picked (old i).candidates (slice_index picks 0))
  pub others : (k : ℕ) → k ≢ i → new k ≡ old k

-- a block without a choice has one candidate, whatever it picks
pub picked-no_choice : (slot : Slot) → has_choice slot ≡ false → (m n : ℕ) → picked slot.candidates m ≡ picked slot.candidates n
picked-no_choice slot none m n =
    let one : length slot.candidates ≤ 1 = grind arith in
    ap (λ at. slice_index_or slot.candidates at []) (omega arith)

module _ (old new : ℕ → Slot) (picks : List ℕ) (i : ℕ) (taken : TakesFirst old picks i new) where
  -- block i has no choice any more
  has_choice-new : has_choice (new i) ≡ false
  has_choice-new = rw taken.left refl

  -- and no block before it has
  none_up_to : NoneBelow new (suc i)
  none_up_to = record {
    none = λ j lt. elim (cases_lt j i) [
      | inl before ↦ let apart : j ≢ i = omega arith in ap has_choice (taken.others j apart) ∙ taken.first.none j before
      | inr le ↦ let here : j ≡ i = omega arith in rw here has_choice-new
    ];
  }

  -- block i had the first choice
  choices_below-here : choices_below old (suc i) ≡ 1
  choices_below-here =
      let before : choices_below old i ≡ 0 = choices_below-none old i taken.first in
      choices_below-suc old i ∙ rw (taken.had_choice, before) refl

  -- after it, there is one choice less
  choices_below-after : (k : ℕ) → i < k → choices_below old k ≡ choices_below new k + 1
  choices_below-after zero lt = absurd (omega arith)
  choices_below-after (suc k) lt = elim (cases_lt i k) [
    | inl after ↦
        let apart : k ≢ i = omega arith in
        let same : ◌≡◌ {A = ℕ} (cond (has_choice (new k)) 1 0) (cond (has_choice (old k)) 1 0) = ap (λ s. cond (has_choice s) 1 0) (taken.others k apart) in
        omega (arith, same, choices_below-after k after, choices_below-suc old k, choices_below-suc new k)
    | inr le ↦
        let here : k ≡ i = omega arith in
        rw here (omega (arith, choices_below-here, choices_below-none new (suc i) none_up_to))
  ]

  rest_before : (k : ℕ) → k < i → picked_content new (drop 1 picks) k ≡ picked_content old picks k
  rest_before k before =
      let apart : k ≢ i = omega arith in
      ap (λ s. picked s.candidates (pick_of new (drop 1 picks) k)) (taken.others k apart) ∙ picked-no_choice (old k) (taken.first.none k before) _ _

  rest_here : picked_content new (drop 1 picks) i ≡ picked_content old picks i
  rest_here =
      picked-no_choice (new i) has_choice-new _ 0
      ∙ ap (λ s. picked s.candidates 0) taken.left
      ∙ ap (λ n. picked (old i).candidates (slice_index picks n)) (sym (choices_below-none old i taken.first))

  rest_after : (k : ℕ) → i < k → picked_content new (drop 1 picks) k ≡ picked_content old picks k
  rest_after k after =
      let apart : k ≢ i = omega arith in
      let pick : pick_of new (drop 1 picks) k ≡ pick_of old picks k =
      get_or_after_one picks (choices_below new k) 0 ∙ ap (slice_index picks) (omega (arith, choices_below-after k after)) in
      ap (λ s. picked s.candidates (pick_of new (drop 1 picks) k)) (taken.others k apart) ∙ ap (picked (old k).candidates) pick

  -- the other blocks take the other picks
  pub picked_content-rest : (k : ℕ) → picked_content new (drop 1 picks) k ≡ picked_content old picks k
  picked_content-rest k = elim (cases_order k i) [
    | inl here ↦ rw here rest_here
    | inr apart ↦ elim apart [ inl before ↦ rest_before k before | inr after ↦ rest_after k after ]
  ]

  -- the first pick is used, if there is one
  pub used_with_rest : (blocks : ℕ) → i < blocks
      → min (length picks) (choices_below old blocks) + length (drop 1 picks) ≡ min (length (drop 1 picks)) (choices_below new blocks) + length picks
  used_with_rest blocks lt = omega (arith, choices_below-after blocks lt, length-drop 1 picks)
