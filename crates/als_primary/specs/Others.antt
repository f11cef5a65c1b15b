-- What the quorum answered.
use Rattle.std.specs.Prelude.{◌⊎◌, ℕ, List}
use Rattle.als_callers.specs.declared.block.Block.{Block}
use Rattle.als_quorum.specs.declared.quorum.Quorum.{Quorum}
use Rattle.als_quorum.specs.Tallies.{HadEnough, HadFew}
use Rattle.als_primary.specs.declared.answers.Answers.{Answers}
use Rattle.als_primary.specs.declared.answers.Answers.TheVariants.{Nothing, Told'}

-- the blocks whose addresses count
abbrev pub blocks_of : Quorum → List Block
blocks_of quorum = quorum.allowed.blocks.items

-- it looked at a roll in which k of different addresses, each of which the blocks admit, had acknowledged the log up to there or further
abbrev pub IsConfirmed : List Block → ℕ → Answers → ℕ → Type 0
IsConfirmed blocks k Nothing n = ⊥
IsConfirmed blocks k (Told' mark before tally) n = HadEnough blocks tally.value k n ⊎ IsConfirmed blocks k before n

-- it looked at a roll in which fewer had
abbrev pub IsMissed : List Block → ℕ → Answers → ℕ → Type 0
IsMissed blocks k Nothing n = ⊥
IsMissed blocks k (Told' mark before tally) n = HadFew blocks tally.value k n ⊎ IsMissed blocks k before n
