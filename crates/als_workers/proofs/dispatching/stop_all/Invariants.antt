use Rattle.std.proofs.Common.{◌≡◌, ◌≤◌}
use Rattle.crossbeam_channel.specs.Claims.{view}
use Rattle.als_workers.specs.Passes.{IsPassOf}
use Rattle.als_workers.specs.Dispatching.{HasStopped}
use Rattle.als_workers.proofs.dispatching.stop_all.Given as goal

abbrev pub invariant-loop : goal.invariant-loop
invariant-loop g l =
    IsPassOf l.queue l.pass × ((view l.pass).parts ≡ (view l.fn.pass).parts) × (l.stops ≤ l.counter)
    × HasStopped (view l.fn.pass) (view l.pass) l.counter l.stops
