use Rattle.als_workers.specs.Tallies.{AloneRaise, checkpoint_events}
use Rattle.als_workers.proofs.checkpointing.write_blocks.Given as goal

abbrev pub invariant-loop : goal.invariant-loop
invariant-loop g l = AloneRaise checkpoint_events (g.E.Events.tally l.fn.events) (g.E.Events.tally l.events)
