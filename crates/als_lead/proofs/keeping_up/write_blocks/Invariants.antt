use Rattle.std.specs.Prelude.{◌≡◌}
use Rattle.als_lead.specs.Going.{Stays}
use Rattle.als_lead.proofs.keeping_up.write_blocks.Given as goal

abbrev pub invariant-loop : goal.invariant-loop
invariant-loop g l = record {
  stays : g.E.Events.alone → Stays (g.E.Events.machine l.fn.engine) (g.E.Events.machine l.engine);
  book : g.E.Events.book l.engine ≡ g.E.Events.book l.fn.engine;
}
