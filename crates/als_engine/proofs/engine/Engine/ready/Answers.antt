use Rattle.als_engine.proofs.KeepLaws.{keeps_then}
use Rattle.als_engine.proofs.StepLaws.{keeps_ready}
use Rattle.als_engine.proofs.engine.Engine.ready.Goals as goal

pub returns-clause-keeps : goal.returns-clause-keeps
returns-clause-keeps g c =
    keeps_then c.args.self.now.machine c.ready_in-answer.new.self.machine c.note.new.self.machine
    c.note.ensures.machine
    (keeps_ready c.args.self.now.machine c.ready_in-answer.new.self.machine c.ready_in-answer.result
    c.ready_in-answer.ensures.grows c.ready_in-answer.ensures.readies)
