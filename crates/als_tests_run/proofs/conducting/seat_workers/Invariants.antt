use Rattle.std.proofs.Common.{◌≡◌, ◌+◌, length}
use Rattle.crossbeam_channel.specs.Claims.{view}
use Rattle.als_workers.specs.Passes.{IsPassOf}
use Rattle.als_tests_run.proofs.conducting.seat_workers.Given as goal

abbrev pub invariant-loop-share : goal.invariant-loop-share
invariant-loop-share g l =
    IsPassOf l.hall.queue.now l.pass
    × ((view l.pass).parts + length l.yielded ≡ (view l.fn.pass).parts)
