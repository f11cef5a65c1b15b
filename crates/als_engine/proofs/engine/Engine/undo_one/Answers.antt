use Rattle.als_engine.proofs.KeepLaws.{keeps_then}
use Rattle.als_engine.proofs.StepLaws.{keeps_undo_one}
use Rattle.als_engine.proofs.engine.Engine.undo_one.Goals as goal

pub returns-clause-keeps : goal.returns-clause-keeps
returns-clause-keeps g c =
    keeps_then c.args.self.now.machine c.undo_one_in-answer.new.self.machine c.note.new.self.machine
    c.note.ensures.machine
    (keeps_undo_one c.args.self.now.machine c.undo_one_in-answer.new.self.machine c.undo_one_in-answer.result
    c.undo_one_in-answer.ensures.undoes)
