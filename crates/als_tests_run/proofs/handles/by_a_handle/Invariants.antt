use Rattle.std.specs.Prelude.{Some, true, slice_index}
use Rattle.als_tests_run.proofs.handles.by_a_handle.Given as goal

abbrev pub ghosts-play_shared : goal.ghosts-play_shared
ghosts-play_shared g a = record { names = λ place. slice_index a.blanks.names place; shares = 1; start = Some (g.E.Events.machine a.engine); book = g.E.Events.book a.engine; takes_over = true }
