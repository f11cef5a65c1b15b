use Rattle.std.specs.Prelude.{◌≡◌}
use Rattle.als_writer.proofs.Owing.{TidiedSoFar}
use Rattle.als_writer.proofs.tidying.tidy.Given as goal

abbrev pub invariant-loop : goal.invariant-loop
invariant-loop g l = record {
  so_far : g.E.Events.alone → TidiedSoFar (g.E.Events.machine l.fn.engine) (g.E.Events.machine l.engine);
  book : g.E.Events.book l.engine ≡ g.E.Events.book l.fn.engine;
}
