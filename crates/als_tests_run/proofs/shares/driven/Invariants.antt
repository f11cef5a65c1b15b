use Rattle.std.specs.Prelude.{Some, true, slice_index}
use Rattle.als_tests_run.proofs.shares.driven.Given as goal

abbrev pub ghosts-drive : goal.ghosts-drive
ghosts-drive g a = record { names = λ place. slice_index a.blanks.names place; shares = 2; start = Some (g.E.Events.machine a.engine); book = g.E.Events.book a.engine; takes_over = true }
