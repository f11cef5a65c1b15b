use Rattle.als_workers.specs.Tallies.{AloneRaise, checkpoint_events}
use Rattle.als_workers.proofs.checkpointing.checkpointer.Given as goal

abbrev pub invariant-loop : goal.invariant-loop
invariant-loop g l =
    (goal.iterator-loop g).can_next l.iterator' × (goal.iterator-loop g).is_finite l.iterator'
    × AloneRaise checkpoint_events (g.E.Events.tally l.fn.events) (g.E.Events.tally l.events)
