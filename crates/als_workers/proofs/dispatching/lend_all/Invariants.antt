use Rattle.std.proofs.Common.{◌≡◌}
use Rattle.crossbeam_channel.specs.Claims.{view}
use Rattle.als_workers.specs.Passes.{IsPassOf}
use Rattle.als_workers.specs.Dispatching.{Dispatches}
use Rattle.als_workers.proofs.dispatching.lend_all.Given as goal

abbrev pub invariant-loop : goal.invariant-loop
invariant-loop g l =
    (goal.iterator-loop g).can_next l.iterator' × (goal.iterator-loop g).is_finite l.iterator' × IsPassOf l.queue l.pass
    × ((view l.pass).parts ≡ (view l.fn.pass).parts)
    × Dispatches (view l.fn.pass) (view l.pass) (g.E.Events.tally l.fn.events) (g.E.Events.tally l.events) 0 0
