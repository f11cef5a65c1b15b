use Rattle.als_ship.specs.Follows.{SameText}
use Rattle.als_operate.proofs.storing.flush_pages.Given as goal

abbrev pub invariant-loop : goal.invariant-loop
invariant-loop g l = g.E.Events.alone → SameText (g.E.Events.machine l.fn.events) (g.E.Events.machine l.events)
