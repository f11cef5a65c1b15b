use Rattle.als_frames.proofs.LeaseKeeping.{keeps_recall}
use Rattle.als_frames.proofs.frames.Frames.recall.Goals as goal

pub returns-clause-keeps : goal.returns-clause-keeps
returns-clause-keeps g c log synced below h = keeps_recall log synced below c.args.self.now.paged c.recall_in.new.self.paged c.args.page c.recall_in.ensures.recalls h
