use Rattle.std.proofs.Common.{◌<◌}
use Rattle.crossbeam_channel.specs.Claims.{view}
use Rattle.als_workers.specs.Passes.{IsPassOf}
use Rattle.als_tests_run.proofs.waiting.Seat.fill.Given as goal

abbrev pub invariant-loop : goal.invariant-loop
invariant-loop g l = IsPassOf l.queue l.pass × (0 < (view l.pass).parts)
