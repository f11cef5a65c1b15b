-- What a peer's answer says of a node that is to be taken over.
use Rattle.std.specs.Prelude.{◌≡◌, ◌<◌, ℕ, List, length, slice_index_or, Option, None, Some}
use Rattle.als_compare.specs.declared.rank.Rank.{Rank}
use Rattle.als_compare.specs.Ranks.{IsAbove}

-- it did not answer, or its rank is above the node's: it may hold what was answered to clients, and the node not
abbrev pub KeepsFrom : Rank → Option Rank → Type 0
KeepsFrom own None = Unit {0}
KeepsFrom own (Some rank) = IsAbove rank own

-- the answer at a place keeps it from that
pub record IsKeptBy (own : Rank) (answers : List (Option Rank)) (at : ℕ) : Type 0 where
  pub answer : Option Rank
  pub within : at < length answers
  pub there : answer ≡ slice_index_or answers at answer
  pub keeps : KeepsFrom own answer
