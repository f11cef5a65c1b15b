use Rattle.als_page.specs.Page.{state_of}
use Rattle.als_frames.proofs.Keeping.{reads, read_sound, IfOk-so}
use Rattle.als_frames.proofs.frames.Frames.stored.Goals as goal

pub returns-clause-history : goal.returns-clause-history
returns-clause-history g c =
    IfOk-so c.read_stored.result c.read_stored.ensures.ok
    (λ found is log synced below h absent. reads log synced below c.args.self.now.paged c.args.page (state_of found) c.requires absent is h)

pub returns-clause-sound : goal.returns-clause-sound
returns-clause-sound g c log synced below h absent is =
    read_sound log synced below c.read_stored.result c.args.self.now.paged c.read_stored.new.self.paged c.args.page c.requires absent c.read_stored.ensures.err h is
