-- What becomes of the outcomes in an asker's slots.
use Rattle.std.specs.Prelude.{◌≡◌, ◌<◌, ◌≤◌, ℕ, List, Some, length, Contains}
use Rattle.std.specs.List.{slice_get}
use Rattle.als_seats.specs.declared.ask.Ask.{Ask}
use Rattle.als_seats.specs.declared.outcome.Outcome.{Outcome}
use Rattle.als_seats.specs.declared.outcome.Outcome.TheVariants.{NotBegun}

-- a slot is as it was
abbrev pub IsSame : {A : Type 0} → List (Outcome A) → List (Outcome A) → ℕ → Type 0
IsSame old new at = slice_get new at ≡ slice_get old at

-- the question of a slot was not begun
abbrev pub IsNotBegun : {A : Type 0} → List (Outcome A) → ℕ → Type 0
IsNotBegun new at = slice_get new at ≡ Some NotBegun

-- the questions of the slots from this one on were not begun, the slots before it are as they were, and there are as many as before
abbrev pub RefusesFrom : {A : Type 0} → ℕ → List (Outcome A) → List (Outcome A) → Type 0
RefusesFrom put old new =
    (length new ≡ length old)
    × ((at : ℕ) → put ≤ at → at < length old → IsNotBegun new at)
    × ((at : ℕ) → at < put → IsSame old new at)

-- the question of a seat at an index waits among these
abbrev pub Waits : {T : Type 0} → ℕ → ℕ → List (Ask T) → Type 0
Waits {T} seat at asks = (ask : Ask T) × Contains asks ask × (ask.place.seat ≡ seat) × (ask.place.at ≡ at)

-- of these questions each one of the seat was not begun, every other slot is as it was, and there are as many as before
abbrev pub TakesBack : {T A : Type 0} → ℕ → List (Ask T) → List (Outcome A) → List (Outcome A) → Type 0
TakesBack seat asks old new =
    (length new ≡ length old)
    × ((at : ℕ) → at < length old → Waits seat at asks → IsNotBegun new at)
    × ((at : ℕ) → ¬ (Waits seat at asks) → IsSame old new at)
