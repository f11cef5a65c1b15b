use Rattle.std.proofs.Common.{length, ◌++◌}
use Rattle.als_engine.specs.Readers.{ViewGoesOn}
use Rattle.als_engine.proofs.TakingLaws.{PieceSoFar}
use Rattle.als_engine.proofs.taking_in.take_piece.Given as goal

abbrev pub invariant-loop-rest : goal.invariant-loop-rest
invariant-loop-rest g l = record {
  goes_on : ViewGoesOn l.fn.held.stored.log l.fn.shown l.held.stored.log l.shown;
  so_far : PieceSoFar l.fn.held.stored (l.fn.receiver.kept ++ l.fn.piece) l.held.stored l.receiver
      l.rest;
}

abbrev pub decreases-loop-rest : goal.decreases-loop-rest
decreases-loop-rest g l = length l.rest
