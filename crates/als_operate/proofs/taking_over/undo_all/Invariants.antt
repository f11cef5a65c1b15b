use Rattle.als_operate.specs.TakingOver.{GoesAlong}
use Rattle.als_operate.proofs.taking_over.undo_all.Given as goal

abbrev pub invariant-loop : goal.invariant-loop
invariant-loop g l = g.E.Events.alone → GoesAlong (g.E.Events.machine l.fn.events) (g.E.Events.machine l.events)
