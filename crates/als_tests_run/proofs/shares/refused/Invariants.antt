use Rattle.std.specs.Prelude.{Some, false, slice_index}
use Rattle.als_tests_run.proofs.shares.refused.Given as goal

abbrev pub ghosts-refuse : goal.ghosts-refuse
ghosts-refuse g a = record { names = λ place. slice_index a.blanks.names place; shares = 1; start = Some (g.E.Events.machine a.engine); book = g.E.Events.book a.engine; takes_over = false }
