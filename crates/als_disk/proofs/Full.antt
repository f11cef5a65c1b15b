-- Each content stays that of a block, through every change.
use Rattle.std.proofs.Common.{◌≡◌, ◌<◌, ◌-◌, min, replicate, arith, ℕ, zero, suc, List, [], ◌∷◌, ◌++◌, length, refl, subst, inl, inr}
use Rattle.std.proofs.lemmas.Bool.{cases_eq}
use Rattle.std.proofs.lemmas.List.Elements.{Contains-get_or, Contains-push_cases}
use Rattle.std.specs.Prelude.{Contains, slice_index}
use Rattle.als_disk.specs.Slot.{Slot, written, SameBlocks, SameBlocksBut, KeepsReadable, KeepsCandidate, IsBlock, HoldsBlocks, GivesCandidates}
use Rattle.als_disk.specs.Crash.{picked, pick_of, picked_content, LeavesPicked}
use Rattle.als_disk.specs.SlotLaws.{Contains-one}
use Rattle.als_disk.specs.Store.{zeros}

module _ (old new : ℕ → Slot) (blocks : HoldsBlocks old) where
  pub HoldsBlocks-same : SameBlocks old new → HoldsBlocks new
  HoldsBlocks-same same k content has =
      blocks k content (subst (λ (s : Slot). Contains s.candidates content) (same k) has)

  pub HoldsBlocks-candidate : ((k : ℕ) → KeepsCandidate (old k) (new k)) → HoldsBlocks new
  HoldsBlocks-candidate kept k content has =
      let left : Contains ((kept k).content ∷ []) content = subst (λ (s : Slot). Contains s.candidates content) (kept k).left has in
      subst (λ (x : List ℕ). IsBlock x) (Contains-one left) (blocks k (kept k).content (kept k).was_candidate)

  pub HoldsBlocks-written : (i : ℕ) (block : List ℕ) → IsBlock block → new i ≡ written (old i) block → SameBlocksBut i old new → HoldsBlocks new
  HoldsBlocks-written i block is_block here others k content has = elim (cases_eq k i) [
    | inl at ↦
        let added : Contains ((old i).candidates ++ block ∷ []) content =
        subst (λ (s : Slot). Contains s.candidates content) here (subst (λ (j : ℕ). Contains (new j).candidates content) at has) in
        elim (Contains-push_cases (old i).candidates block content added) [
          | inl earlier ↦ blocks i content earlier
          | inr is ↦ subst (λ (x : List ℕ). IsBlock x) is is_block
        ]
    | inr apart ↦ blocks k content (subst (λ (s : Slot). Contains s.candidates content) (others k apart) has)
  ]

-- what was readable is a candidate
pub KeepsCandidate-readable : (old new : ℕ → Slot) → GivesCandidates old → ((k : ℕ) → KeepsReadable (old k) (new k)) → (k : ℕ) → KeepsCandidate (old k) (new k)
KeepsCandidate-readable old new gives kept k =
    record { content = (kept k).content; was_candidate = gives.candidates k (kept k).content (kept k).was_readable; left = (kept k).left }

-- a candidate that is picked is a candidate
Contains-picked : (candidates : List (List ℕ)) (n : ℕ) → 0 < length candidates → Contains candidates (picked candidates n)
Contains-picked candidates n some =
    let within : min n (length candidates - 1) < length candidates = omega arith in
    Contains-get_or candidates (min n (length candidates - 1)) [] within

pub KeepsCandidate-picked : (old new : ℕ → Slot) (picks : List ℕ) → GivesCandidates old → LeavesPicked old picks new → (k : ℕ) → KeepsCandidate (old k) (new k)
KeepsCandidate-picked old new picks gives leaves k =
    let first = gives.candidates k _ (Contains-get_or (old k).readable 0 [] (gives.gives k)) in
    let some : 0 < length (old k).candidates = omega (arith, first.1) in
    record { content = picked_content old picks k; was_candidate = Contains-picked (old k).candidates (pick_of old picks k) some; left = leaves k }

slice_index-zeros : (n i : ℕ) → slice_index (replicate n 0) i < 256
slice_index-zeros zero i = omega arith
slice_index-zeros (suc n) zero = omega arith
slice_index-zeros (suc n) (suc i) = slice_index-zeros n i

-- a block of zeros
pub IsBlock-zeros : IsBlock zeros
unfolding zeros
IsBlock-zeros = record { len = refl; bytes = slice_index-zeros 512 }
