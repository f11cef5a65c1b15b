use Rattle.als_engine.proofs.KeepLaws.{keeps_then}
use Rattle.als_engine.proofs.StepLaws.{keeps_sync_pages}
use Rattle.als_engine.proofs.engine.Engine.sync_pages.Goals as goal

pub returns-clause-keeps : goal.returns-clause-keeps
returns-clause-keeps g c =
    keeps_then c.args.self.now.machine c.sync_pages_in-answer.new.self.machine c.note.new.self.machine
    c.note.ensures.machine
    (keeps_sync_pages c.args.self.now.machine c.sync_pages_in-answer.new.self.machine c.sync_pages_in-answer.result
    c.sync_pages_in-answer.ensures.syncs)
