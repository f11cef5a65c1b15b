use Rattle.als_frames.proofs.Keeping.{write_keeps}
use Rattle.als_frames.proofs.frames.Frames.write.Goals as goal

pub returns-clause-keeps : goal.returns-clause-keeps
returns-clause-keeps g c log synced below stable h =
    write_keeps log synced below c.write_out.result c.args.self.now.paged c.write_out.new.self.paged c.args.page c.write_out.ensures.ok c.write_out.ensures.err stable h
