use Rattle.std.proofs.Common.{◌≡◌, ◌+◌, length}
use Rattle.std.specs.Vec.{vec_len, vec_capacity}
use Rattle.crossbeam_channel.specs.Claims.{view}
use Rattle.als_workers.specs.Passes.{IsPassOf}
use Rattle.als_follow.proofs.pool.make_workers.Given as goal

abbrev pub invariant-loop-share : goal.invariant-loop-share
invariant-loop-share g l =
    IsPassOf l.context.queue.now l.pass
    × ((view l.pass).parts + length l.yielded ≡ (view l.fn.pass).parts)
    × (vec_len l.pool ≡ vec_len l.fn.pool + length l.yielded)
    × (vec_capacity l.pool ≡ vec_capacity l.fn.pool)
