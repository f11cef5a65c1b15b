use Rattle.als_workers.specs.Tallies.{AloneRaise, force_events}
use Rattle.als_workers.proofs.forcing.write_log.Given as goal

abbrev pub invariant-loop : goal.invariant-loop
invariant-loop g l = AloneRaise force_events (g.E.Events.tally l.fn.events) (g.E.Events.tally l.events)
