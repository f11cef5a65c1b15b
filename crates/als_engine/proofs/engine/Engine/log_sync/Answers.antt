use Rattle.als_engine.proofs.KeepLaws.{keeps_then}
use Rattle.als_engine.proofs.StepLaws.{keeps_log_sync}
use Rattle.als_engine.proofs.engine.Engine.log_sync.Goals as goal

pub returns-clause-keeps : goal.returns-clause-keeps
returns-clause-keeps g c =
    keeps_then c.args.self.now.machine c.log_sync_in-answer.new.self.machine c.note.new.self.machine
    c.note.ensures.machine
    (keeps_log_sync c.args.self.now.machine c.log_sync_in-answer.new.self.machine c.log_sync_in-answer.result
    c.log_sync_in-answer.ensures.syncs)
