use Rattle.als_workers.specs.Tallies.{AloneRaise, flush_events}
use Rattle.als_workers.proofs.flushing.flusher.Given as goal

abbrev pub invariant-loop : goal.invariant-loop
invariant-loop g l =
    (goal.iterator-loop g).can_next l.iterator' × (goal.iterator-loop g).is_finite l.iterator'
    × AloneRaise flush_events (g.E.Events.tally l.fn.events) (g.E.Events.tally l.events)
