use Rattle.als_page.specs.Page.{state_of}
use Rattle.als_frames.proofs.Keeping.{reads, fetch_keeps, fetch_sound, IfOk-so}
use Rattle.als_frames.proofs.LoadLaws.{refuses_full}
use Rattle.als_frames.proofs.frames.Frames.fetch.Goals as goal

pub returns-clause-full : goal.returns-clause-full
returns-clause-full g c full = refuses_full c.fetch_in.result c.args.self.now.paged c.fetch_in.new.self.paged c.args.page c.args.end.0 (λ found. state_of found) c.fetch_in.ensures.ok c.fetch_in.ensures.err full

pub returns-clause-keeps : goal.returns-clause-keeps
returns-clause-keeps g c log synced below h =
    fetch_keeps log synced below c.fetch_in.result c.args.self.now.paged c.fetch_in.new.self.paged c.args.page c.args.end.0 c.fetch_in.ensures.same c.fetch_in.ensures.err h

pub returns-clause-history : goal.returns-clause-history
returns-clause-history g c =
    IfOk-so c.fetch_in.result c.fetch_in.ensures.ok
    (λ found is log synced below h. reads log synced below c.args.self.now.paged c.args.page (state_of found) c.requires.in_range c.requires.absent is.found h)

pub returns-clause-sound : goal.returns-clause-sound
returns-clause-sound g c log synced below h le is =
    fetch_sound log synced below c.fetch_in.result c.args.self.now.paged c.fetch_in.new.self.paged c.args.page c.args.end.0 c.requires.in_range c.requires.absent le c.fetch_in.ensures.err h is
