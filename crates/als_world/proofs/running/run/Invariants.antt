use Rattle.std.proofs.Common.{vec_len}
use Rattle.std.specs.Prelude.{vec_capacity}
use Rattle.als_world.proofs.RunLaws.{IsUnderWay}
use Rattle.als_world.proofs.running.run.Given as goal

abbrev pub invariant-loop-step : goal.invariant-loop-step
invariant-loop-step g l = IsUnderWay g.D.BlockDisk.slot g.D.BlockDisk.block_count l.fn.world l.steps l.step-index l.replies.items l.world (vec_len l.replies) (vec_capacity l.replies)
