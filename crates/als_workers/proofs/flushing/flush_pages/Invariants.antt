use Rattle.als_workers.specs.Tallies.{AloneRaise, flush_events}
use Rattle.als_workers.proofs.flushing.flush_pages.Given as goal

abbrev pub invariant-loop : goal.invariant-loop
invariant-loop g l = AloneRaise flush_events (g.E.Events.tally l.fn.events) (g.E.Events.tally l.events)
