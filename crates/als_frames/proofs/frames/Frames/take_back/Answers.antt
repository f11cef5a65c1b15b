use Rattle.als_page.specs.Page.{state_of}
use Rattle.als_frames.proofs.LeaseKeeping.{keeps_take_back}
use Rattle.als_frames.proofs.frames.Frames.take_back.Goals as goal

pub returns-clause-keeps : goal.returns-clause-keeps
returns-clause-keeps g c log synced below changes rest next h =
    keeps_take_back log synced below c.args.self.now.paged c.take_back_in.new.self.paged c.args.page (state_of c.args.found.now) changes rest c.take_back_in.ensures.takes_back next h
