use Rattle.als_engine.proofs.KeepLaws.{keeps_then}
use Rattle.als_engine.proofs.StepLaws.{keeps_adopt}
use Rattle.als_engine.proofs.engine.Engine.adopt.Goals as goal

pub returns-clause-keeps : goal.returns-clause-keeps
returns-clause-keeps g c =
    keeps_then c.args.self.now.machine c.adopt_in-answer.new.self.machine c.note.new.self.machine
    c.note.ensures.machine
    (keeps_adopt c.args.self.now.machine c.adopt_in-answer.new.self.machine c.args.history
    c.adopt_in-answer.result c.adopt_in-answer.ensures.adopts)
