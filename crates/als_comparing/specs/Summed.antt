-- What a sum of a log's text is worth.
use Rattle.std.specs.Prelude.{ℕ, List, take}
use Rattle.als_sending.specs.Reads.{Read, AreOf}
use Rattle.als_compare.specs.declared.summing.Summing.{Summing}
use Rattle.als_compare.specs.Summaries.{Sums}

-- it is that of a front of each text of which all reads are
abbrev pub SumsFront : List Read → Summing → Type 0
SumsFront reads s = (text : List ℕ) → AreOf text reads → Sums s (take s.end text)
