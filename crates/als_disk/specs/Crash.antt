-- Which candidate a crash leaves in each block, by a list of picks.
use Rattle.std.specs.Prelude.{◌≡◌, ℕ, zero, suc, ◌+◌, ◌-◌, Bool, nat_lt, min, if◌then◌else◌, List, [], length, slice_index, slice_index_or}
use Rattle.als_disk.specs.Slot.{Slot, only}

-- whether the block has more than one candidate
abbrev pub has_choice : Slot → Bool
has_choice slot = nat_lt 1 (length slot.candidates)

-- how many blocks below block k have a choice
unfoldable pub choices_below : (ℕ → Slot) → ℕ → ℕ
choices_below slots zero = 0
choices_below slots (suc k) = choices_below slots k + (if has_choice (slots k) then 1 else 0)

-- the pick of block k: blocks that have a choice take the picks in rising order, and missing picks are 0
abbrev pub pick_of : (ℕ → Slot) → List ℕ → ℕ → ℕ
pick_of slots picks k = slice_index picks (choices_below slots k)

-- the candidate with this number, counted from 0, or the last one where the number is too large
abbrev pub picked : List (List ℕ) → ℕ → List ℕ
picked candidates n = slice_index_or candidates (min n (length candidates - 1)) []

-- the candidate that block k picks
abbrev pub picked_content : (ℕ → Slot) → List ℕ → ℕ → List ℕ
picked_content slots picks k = picked (slots k).candidates (pick_of slots picks k)

-- each block is left with the candidate that it picks
abbrev pub LeavesPicked : (ℕ → Slot) → List ℕ → (ℕ → Slot) → Type 0
LeavesPicked old picks new = (k : ℕ) → new k ≡ only (picked_content old picks k)
