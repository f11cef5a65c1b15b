use Rattle.als_engine.proofs.KeepLaws.{keeps_then}
use Rattle.als_engine.proofs.StepLaws.{keeps_ckpt_block}
use Rattle.als_engine.proofs.engine.Engine.ckpt_block.Goals as goal

pub returns-clause-keeps : goal.returns-clause-keeps
returns-clause-keeps g c =
    keeps_then c.args.self.now.machine c.ckpt_block_in-answer.new.self.machine c.note.new.self.machine
    c.note.ensures.machine
    (keeps_ckpt_block c.args.self.now.machine c.ckpt_block_in-answer.new.self.machine c.ckpt_block_in-answer.result
    c.ckpt_block_in-answer.ensures.writes)
