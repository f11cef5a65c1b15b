use Rattle.als_page.specs.Page.{state_of}
use Rattle.als_frames.specs.Leases.{returned_frame}
use Rattle.als_frames.proofs.TableLists.{sets_changed}
use Rattle.als_frames.proofs.table.take_back_at.Goals as goal

pub returns-clause-sets : goal.returns-clause-sets
returns-clause-sets c =
    sets_changed c.args.frames.now c.args.i c.in-Some.frame.now c.take_back.new.self (returned_frame (state_of c.args.found.now)) c.in-Some.ensures.unique c.in-Some.ensures.value c.take_back.ensures
