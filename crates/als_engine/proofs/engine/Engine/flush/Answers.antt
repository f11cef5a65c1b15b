use Rattle.als_engine.proofs.KeepLaws.{keeps_then}
use Rattle.als_engine.proofs.PageLaws.{flushes_keeps}
use Rattle.als_engine.proofs.engine.Engine.flush.Goals as goal

pub returns-clause-keeps : goal.returns-clause-keeps
returns-clause-keeps g c =
    keeps_then c.args.self.now.machine c.flush_in-answer.new.self.machine c.note.new.self.machine
    c.note.ensures.machine
    (flushes_keeps c.args.self.now.machine c.flush_in-answer.new.self.machine c.args.page c.flush_in-answer.result
    c.flush_in-answer.ensures.flushes)
