use Rattle.als_engine.proofs.KeepLaws.{keeps_then}
use Rattle.als_engine.proofs.StepLaws.{keeps_seal}
use Rattle.als_engine.proofs.engine.Engine.seal.Goals as goal

pub returns-clause-keeps : goal.returns-clause-keeps
returns-clause-keeps g c =
    keeps_then c.args.self.now.machine c.seal_in-answer.new.self.machine c.note.new.self.machine
    c.note.ensures.machine
    (keeps_seal c.args.self.now.machine c.seal_in-answer.new.self.machine c.seal_in-answer.result
    c.seal_in-answer.ensures.seals)
