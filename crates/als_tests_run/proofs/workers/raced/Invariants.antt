use Rattle.std.specs.Prelude.{Some, true, slice_index}
use Rattle.als_tests_run.proofs.workers.raced.Given as goal

abbrev pub ghosts-race : goal.ghosts-race
ghosts-race g a = record { names = λ place. slice_index a.blanks.names place; shares = 3; start = Some (g.E.Events.machine a.engine); book = g.E.Events.book a.engine; takes_over = true }
