use Rattle.als_engine.proofs.KeepLaws.{keeps_then}
use Rattle.als_engine.proofs.StepLaws.{keeps_log_write}
use Rattle.als_engine.proofs.engine.Engine.log_write.Goals as goal

pub returns-clause-keeps : goal.returns-clause-keeps
returns-clause-keeps g c =
    keeps_then c.args.self.now.machine c.log_write_in-answer.new.self.machine c.note.new.self.machine
    c.note.ensures.machine
    (keeps_log_write c.args.self.now.machine c.log_write_in-answer.new.self.machine c.log_write_in-answer.result
    c.log_write_in-answer.ensures.writes)
