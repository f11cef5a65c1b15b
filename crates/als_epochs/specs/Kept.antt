-- How a history is kept: an array of 32 numbers, of which the first are its seals, and the others 0.
use Rattle.std.specs.Prelude.{◌≡◌, ℕ, ◌≤◌, ◌-◌, List, ◌++◌, length, take, drop, replicate}
use Rattle.als_epochs.specs.Histories.{IsHistory}

-- The array has 32 numbers, and those behind the seals are 0.
pub record IsKept (epoch : ℕ) (seals : List ℕ) : Type 0 where
  pub size : length seals ≡ 32
  pub history : IsHistory (take epoch seals)
  pub few : epoch ≤ 32
  pub unused : drop epoch seals ≡ replicate (32 - epoch) 0

-- the array of a history
abbrev pub array_of : List ℕ → List ℕ
array_of seals = seals ++ replicate (32 - length seals) 0
