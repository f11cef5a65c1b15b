use Rattle.als_ship.proofs.LogForcing.{HasWritten}
use Rattle.als_ship.proofs.forcing.write_log.Given as goal

abbrev pub invariant-loop : goal.invariant-loop
invariant-loop g l = g.E.Events.alone → HasWritten (g.E.Events.machine l.fn.events) (g.E.Events.machine l.events)
