use Rattle.std.proofs.Common.{◌≡◌, ◌+◌, length}
use Rattle.std.specs.Vec.{vec_len, vec_capacity}
use Rattle.als_follow.proofs.pool.join_workers.Given as goal

abbrev pub invariant-loop-worker : goal.invariant-loop-worker
invariant-loop-worker g l =
    (vec_len l.shares ≡ vec_len l.fn.shares + length l.yielded)
    × (vec_capacity l.shares ≡ vec_capacity l.fn.shares)
