use Rattle.std.proofs.Common.{◌-◌, ◌≡◌}
use Rattle.std.specs.Prelude.{vec_len}
use Rattle.als_folder.proofs.zeros.is_zero_from.Given as goal

abbrev pub invariant-loop-at : goal.invariant-loop-at
invariant-loop-at g l = vec_len l.piece ≡ 1048576

abbrev pub decreases-loop-at : goal.decreases-loop-at
decreases-loop-at g l = l.len - l.at
