use Rattle.std.proofs.Common.{length}
use Rattle.als_engine.specs.Serving.{HasRoomForBytes}
use Rattle.als_engine.specs.Readers.{ViewGoesOn}
use Rattle.als_engine.proofs.TakingLaws.{SoFar}
use Rattle.als_engine.proofs.taking_in.take_records.Given as goal

abbrev pub invariant-loop : goal.invariant-loop
invariant-loop g l = record {
  goes_on : ViewGoesOn l.fn.held.stored.log l.fn.shown l.held.stored.log l.shown;
  so_far : SoFar l.fn.held.stored l.fn.receiver.kept l.held.stored l.receiver;
  room : HasRoomForBytes l.fn.held.stored l.fn.held.spare l.fn.receiver.kept
      → HasRoomForBytes l.held.stored l.held.spare l.receiver.kept;
}

abbrev pub decreases-loop : goal.decreases-loop
decreases-loop g l = length l.receiver.kept
