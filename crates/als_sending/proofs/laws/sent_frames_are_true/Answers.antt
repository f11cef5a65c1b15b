use Rattle.als_sending.proofs.Frames.{frames_true, frames_spelled}
use Rattle.als_sending.proofs.laws.sent_frames_are_true.Goals as goal

pub returns-clause-true_frames : goal.returns-clause-true_frames
returns-clause-true_frames c = frames_true

pub returns-clause-spelled : goal.returns-clause-spelled
returns-clause-spelled c = frames_spelled
