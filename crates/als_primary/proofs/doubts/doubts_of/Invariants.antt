use Rattle.std.proofs.Common.{◌≡◌, take}
use Rattle.als_primary.specs.Doubts.{doubts_of}
use Rattle.als_primary.proofs.doubts.doubts_of.Given as goal

abbrev pub invariant-loop-i : goal.invariant-loop-i
invariant-loop-i l = l.found.items ≡ doubts_of (take l.i l.rows)
