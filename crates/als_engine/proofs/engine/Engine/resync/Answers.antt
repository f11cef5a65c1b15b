use Rattle.als_engine.proofs.KeepLaws.{keeps_then}
use Rattle.als_engine.proofs.StepLaws.{keeps_resync}
use Rattle.als_engine.proofs.engine.Engine.resync.Goals as goal

pub returns-clause-keeps : goal.returns-clause-keeps
returns-clause-keeps g c =
    keeps_then c.args.self.now.machine c.resync_in-answer.new.self.machine c.note.new.self.machine
    c.note.ensures.machine
    (keeps_resync c.args.self.now.machine c.resync_in-answer.new.self.machine c.resync_in-answer.result
    c.resync_in-answer.ensures.resyncs)
