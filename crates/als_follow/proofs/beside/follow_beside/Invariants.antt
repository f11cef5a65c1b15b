use Rattle.std.specs.Prelude.{Some, false, slice_index, ◌+◌}
use Rattle.als_follow.proofs.beside.follow_beside.Given as goal

abbrev pub ghosts-follow_shared : goal.ghosts-follow_shared
ghosts-follow_shared g a = record {
  names = λ place. slice_index a.blanks.names place;
  shares = a.workers + 4;
  start = Some (g.E.Events.machine a.engine);
  book = g.E.Events.book a.engine;
  takes_over = false;
}
