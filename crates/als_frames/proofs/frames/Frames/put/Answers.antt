use Rattle.als_page.specs.Page.{id_of, state_of}
use Rattle.als_frames.proofs.Keeping.{keeps_put}
use Rattle.als_frames.proofs.frames.Frames.put.Goals as goal

pub returns-clause-keeps : goal.returns-clause-keeps
returns-clause-keeps g c log synced below is h =
    keeps_put log synced below c.args.self.now.paged c.put_in.new.self.paged (id_of c.args.found) (state_of c.args.found) c.requires.absent is c.put_in.ensures h
