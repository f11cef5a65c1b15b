use Rattle.std.proofs.Common.{ap, ◌∙◌}
use Rattle.als_engine.specs.Machine.{Machine}
use Rattle.als_engine.proofs.KeepLaws.{keeps_then}
use Rattle.als_engine.proofs.LeaseLaws.{lend_keeps}
use Rattle.als_engine.proofs.engine.Engine.lend.Goals as goal

pub returns-clause-keeps : goal.returns-clause-keeps
returns-clause-keeps g c =
    keeps_then c.args.self.now.machine c.lend_in-answer.new.self.machine c.note.new.self.machine
    c.note.ensures.machine
    (lend_keeps c.args.self.now.machine c.lend_in-answer.new.self.machine c.args.page c.lend_in-answer.result
    c.lend_in-answer.ensures.lends).keeps

pub returns-clause-attempts : goal.returns-clause-attempts
returns-clause-attempts g c =
    ap (λ (m : Machine). m.held.attempts) c.note.ensures.machine
    ∙ (lend_keeps c.args.self.now.machine c.lend_in-answer.new.self.machine c.args.page c.lend_in-answer.result
    c.lend_in-answer.ensures.lends).attempts
