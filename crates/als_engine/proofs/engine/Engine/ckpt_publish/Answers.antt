use Rattle.als_engine.proofs.KeepLaws.{keeps_then}
use Rattle.als_engine.proofs.StepLaws.{keeps_ckpt_publish}
use Rattle.als_engine.proofs.engine.Engine.ckpt_publish.Goals as goal

pub returns-clause-keeps : goal.returns-clause-keeps
returns-clause-keeps g c =
    keeps_then c.args.self.now.machine c.ckpt_publish_in-answer.new.self.machine c.note.new.self.machine
    c.note.ensures.machine
    (keeps_ckpt_publish c.args.self.now.machine c.ckpt_publish_in-answer.new.self.machine c.ckpt_publish_in-answer.result
    c.ckpt_publish_in-answer.ensures.publishes)
