use Rattle.als_ship.specs.Follows.{SameText}
use Rattle.als_operate.specs.Building.{Builds}
use Rattle.als_operate.proofs.checkpointing.write_blocks.Given as goal

abbrev pub invariant-loop : goal.invariant-loop
invariant-loop g l = record {
  builds : g.E.Events.alone → Builds (g.E.Events.machine l.fn.events) (g.E.Events.machine l.events);
  same : g.E.Events.alone → SameText (g.E.Events.machine l.fn.events) (g.E.Events.machine l.events);
}
