use Rattle.als_wire.proofs.OneFrame.{frame_refused}
use Rattle.als_wire.proofs.laws.no_refusal_of_a_frame.Goals as goal

pub returns : goal.returns
returns c = frame_refused
