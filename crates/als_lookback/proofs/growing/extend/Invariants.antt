use Rattle.std.proofs.Common.{◌≡◌, ◌-◌}
use Rattle.std.specs.Prelude.{vec_len}
use Rattle.als_lookback.proofs.growing.extend.Given as goal

abbrev pub invariant-loop-first : goal.invariant-loop-first
invariant-loop-first g l = vec_len l.piece ≡ 2048

abbrev pub decreases-loop-first : goal.decreases-loop-first
decreases-loop-first g l = l.blocks - l.first
