-- Worked control blocks: what the definition computes for them.
use Rattle.std.proofs.Common.{◌≡◌, [], ◌∷◌, length, take, drop, replicate, Some, refl}
use Rattle.als_ckpt.specs.declared.phase.Phase.TheVariants.{Following, Sealed, Primary}
use Rattle.als_ckpt.specs.declared.region.Region.TheVariants.{First, Second}
use Rattle.als_ckpt.specs.declared.control_state.ControlState.{ControlState}
use Rattle.als_ckpt.specs.Control.{control_head, history_part, control_block, version_1_block, implied_history, first_state}

-- a new database of four pages: 24 bytes, and zeros
first_bytes : take 24 (control_block 4 first_state)
    ≡ 65 ∷ 76 ∷ 83 ∷ 67 ∷ 84 ∷ 76 ∷ 48 ∷ 49 ∷ 0 ∷ 2 ∷ 1 ∷ 0 ∷ 0 ∷ 0 ∷ 0 ∷ 4 ∷ 0 ∷ 0 ∷ 0 ∷ 0 ∷ 0 ∷ 0 ∷ 0 ∷ 16 ∷ []
unfolding control_head history_part
first_bytes = refl

first_zeros : drop 24 (control_block 4 first_state) ≡ replicate 488 0
unfolding control_head history_part
first_zeros = refl

-- sealed for the second time
abbrev sealed_state : ControlState
sealed_state = record {
  phase = Sealed;
  published = Some First;
  mark = record { 0 = 513 };
  position = record { 0 = 258 };
  seal = record { 0 = 512 };
  history = 108 ∷ 512 ∷ [];
}

abbrev primary_state : ControlState
primary_state = record sealed_state { phase = Primary; published = Some Second }

-- the numbers behind the page count: mark, position and seal
sealed_bytes : take 40 (control_block 258 sealed_state)
    ≡ 65 ∷ 76 ∷ 83 ∷ 67 ∷ 84 ∷ 76 ∷ 48 ∷ 49 ∷ 0 ∷ 2 ∷ 2 ∷ 1 ∷ 0 ∷ 0 ∷ 1 ∷ 2 ∷ 0 ∷ 0 ∷ 0 ∷ 0 ∷ 0 ∷ 0 ∷ 2 ∷ 1
    ∷ 0 ∷ 0 ∷ 0 ∷ 0 ∷ 0 ∷ 0 ∷ 1 ∷ 2 ∷ 0 ∷ 0 ∷ 0 ∷ 0 ∷ 0 ∷ 0 ∷ 2 ∷ 0 ∷ []
unfolding control_head history_part
sealed_bytes = refl

-- the epoch, four zeros and two seals, and then zeros
sealed_history : drop 40 (take 64 (control_block 258 sealed_state))
    ≡ 0 ∷ 0 ∷ 0 ∷ 2 ∷ 0 ∷ 0 ∷ 0 ∷ 0 ∷ 0 ∷ 0 ∷ 0 ∷ 0 ∷ 0 ∷ 0 ∷ 0 ∷ 108 ∷ 0 ∷ 0 ∷ 0 ∷ 0 ∷ 0 ∷ 0 ∷ 2 ∷ 0 ∷ []
unfolding control_head history_part
sealed_history = refl

sealed_zeros : drop 64 (control_block 258 sealed_state) ≡ replicate 448 0
unfolding control_head history_part
sealed_zeros = refl

-- the third phase, and the second region
primary_bytes : take 2 (drop 10 (control_block 258 primary_state)) ≡ 3 ∷ 2 ∷ []
unfolding control_head history_part
primary_bytes = refl

-- the same database in version 1, sealed once
abbrev once_sealed : ControlState
once_sealed = record sealed_state { history = 512 ∷ [] }

version_1_bytes : take 40 (version_1_block 258 once_sealed)
    ≡ 65 ∷ 76 ∷ 83 ∷ 67 ∷ 84 ∷ 76 ∷ 48 ∷ 49 ∷ 0 ∷ 1 ∷ 2 ∷ 1 ∷ 0 ∷ 0 ∷ 1 ∷ 2 ∷ 0 ∷ 0 ∷ 0 ∷ 0 ∷ 0 ∷ 0 ∷ 2 ∷ 1
    ∷ 0 ∷ 0 ∷ 0 ∷ 0 ∷ 0 ∷ 0 ∷ 1 ∷ 2 ∷ 0 ∷ 0 ∷ 0 ∷ 0 ∷ 0 ∷ 0 ∷ 2 ∷ 0 ∷ []
unfolding control_head
version_1_bytes = refl

version_1_zeros : drop 40 (version_1_block 258 once_sealed) ≡ replicate 472 0
unfolding control_head
version_1_zeros = refl

-- what it implies
sealed_once : implied_history Sealed 512 ≡ 512 ∷ []
sealed_once = refl

never_sealed : implied_history Following 0 ≡ []
never_sealed = refl

-- a history from offset 40 to the block's end
length-history : length (history_part (108 ∷ 512 ∷ [])) ≡ 472
unfolding history_part
length-history = refl
