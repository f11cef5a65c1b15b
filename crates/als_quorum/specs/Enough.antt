-- When enough followers have acknowledged what a leader wants.
use Rattle.std.specs.Prelude.{◌≡◌, ◌≤◌, ℕ, List, [], ◌∷◌, Option, Some, length, map, Contains}
use Rattle.als_callers.specs.declared.block.Block.{Block}
use Rattle.als_callers.specs.Members.{Admits}
use Rattle.als_quorum.specs.declared.name.Name.{Name}
use Rattle.als_quorum.specs.declared.row.Row.{Row}
use Rattle.als_quorum.specs.declared.wanted.Wanted.{Wanted}
use Rattle.als_quorum.specs.Names.{name_of}

-- these blocks admit the row's address, and its follower has acknowledged the log up to there, and answered a frame of the round or of a later one
abbrev pub Vouches : List Block → Wanted → Row → Type 0
Vouches blocks wanted row = Admits blocks row.peer × (wanted.lsn.0 ≤ row.acknowledged.0) × (wanted.round ≤ row.round)

-- a follower of this name vouches
abbrev pub IsVouched : List Block → List (Option Row) → Wanted → Name → Type 0
IsVouched blocks rows wanted name = (row : Row) × Contains rows (Some row) × Vouches blocks wanted row × (name_of row ≡ name)

-- no name is in the list twice
abbrev pub AreDifferent : List Name → Type 0
AreDifferent [] = Unit {0}
AreDifferent (name ∷ rest) = ¬ (Contains rest name) × AreDifferent rest

-- These rows are of the roll, each of them vouches, and no two are of one name: they are of different folders, or of different addresses where a follower sent
-- no id.
abbrev pub AreVouchers : List Block → List (Option Row) → Wanted → List Row → Type 0
AreVouchers blocks rows wanted chosen = ((row : Row) → Contains chosen row → Contains rows (Some row) × Vouches blocks wanted row)
    × AreDifferent (map name_of chosen)

-- there are k such rows
abbrev pub HasEnough : List Block → List (Option Row) → ℕ → Wanted → Type 0
HasEnough blocks rows k wanted = (chosen : List Row) × (length chosen ≡ k) × AreVouchers blocks rows wanted chosen
