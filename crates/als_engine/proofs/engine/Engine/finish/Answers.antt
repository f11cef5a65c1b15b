use Rattle.als_engine.proofs.KeepLaws.{keeps_then}
use Rattle.als_engine.proofs.StepLaws.{keeps_finish}
use Rattle.als_engine.proofs.engine.Engine.finish.Goals as goal

pub returns-clause-keeps : goal.returns-clause-keeps
returns-clause-keeps g c =
    keeps_then c.args.self.now.machine c.finish_in-answer.new.self.machine c.note.new.self.machine
    c.note.ensures.machine
    (keeps_finish c.args.self.now.machine c.finish_in-answer.new.self.machine c.finish_in-answer.result
    c.finish_in-answer.ensures.finishes)
