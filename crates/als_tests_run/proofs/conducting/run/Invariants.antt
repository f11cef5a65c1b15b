use Rattle.std.specs.Prelude.{Some, true, slice_index, ◌+◌}
use Rattle.als_tests_run.proofs.conducting.run.Given as goal

abbrev pub ghosts-conduct : goal.ghosts-conduct
ghosts-conduct g a = record {
  names = λ place. slice_index a.blanks.names place;
  shares = a.plan.workers + 5;
  start = Some (g.E.Events.machine a.engine);
  book = g.E.Events.book a.engine;
  takes_over = true;
}
