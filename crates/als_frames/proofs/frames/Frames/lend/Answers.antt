use Rattle.als_frames.proofs.LeaseKeeping.{keeps_lend}
use Rattle.als_frames.proofs.frames.Frames.lend.Goals as goal

pub returns-clause-keeps : goal.returns-clause-keeps
returns-clause-keeps g c log synced below h = keeps_lend log synced below c.args.self.now.paged c.lend_in.new.self.paged c.args.page c.args.lent c.lend_in.ensures.lends h
