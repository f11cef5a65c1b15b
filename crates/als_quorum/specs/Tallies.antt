-- What a tally was read off.
use Rattle.std.specs.Prelude.{◌≡◌, ℕ, true, false, List, Option}
use Rattle.als_callers.specs.declared.block.Block.{Block}
use Rattle.als_quorum.specs.declared.row.Row.{Row}
use Rattle.als_quorum.specs.declared.tally.Tally.{Tally}
use Rattle.als_quorum.specs.declared.wanted.Wanted.{Wanted}
use Rattle.als_quorum.specs.Enough.{HasEnough}

-- the rows of the roll that was looked at
abbrev pub rows_of : Tally → List (Option Row)
rows_of tally = tally.roll.value.rows.items

-- what was wanted of the followers: the log up to there, in answer to a frame of the tally's round or of a later one
abbrev pub wanted_by : Tally → ℕ → Wanted
wanted_by tally lsn = record { lsn = record { 0 = lsn }; round = tally.round }

-- k of these rows are of different names, at addresses that the blocks admit, and have acknowledged the log up to there in answer to such a frame
abbrev pub HadEnough : List Block → Tally → ℕ → ℕ → Type 0
HadEnough blocks tally k lsn = HasEnough blocks (rows_of tally) k (wanted_by tally lsn)

-- there are not so many
abbrev pub HadFew : List Block → Tally → ℕ → ℕ → Type 0
HadFew blocks tally k lsn = ¬ (HasEnough blocks (rows_of tally) k (wanted_by tally lsn))

-- it is enough exactly where there were so many
abbrev pub IsTallyOf : List Block → ℕ → ℕ → Tally → Type 0
IsTallyOf blocks k lsn tally = (tally.is_enough ≡ true → HadEnough blocks tally k lsn) × (tally.is_enough ≡ false → HadFew blocks tally k lsn)
