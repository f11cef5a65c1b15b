use Rattle.std.proofs.Common.{ap, ◌∙◌}
use Rattle.als_engine.specs.Machine.{Machine}
use Rattle.als_engine.proofs.KeepLaws.{keeps_then}
use Rattle.als_engine.proofs.LeaseLaws.{recall_keeps}
use Rattle.als_engine.proofs.engine.Engine.recall.Goals as goal

pub returns-clause-keeps : goal.returns-clause-keeps
returns-clause-keeps g c =
    keeps_then c.args.self.now.machine c.recall_in-answer.new.self.machine c.note.new.self.machine
    c.note.ensures.machine
    (recall_keeps c.args.self.now.machine c.recall_in-answer.new.self.machine c.args.page c.recall_in-answer.result
    c.recall_in-answer.ensures.recalls).keeps

pub returns-clause-attempts : goal.returns-clause-attempts
returns-clause-attempts g c =
    ap (λ (m : Machine). m.held.attempts) c.note.ensures.machine
    ∙ (recall_keeps c.args.self.now.machine c.recall_in-answer.new.self.machine c.args.page c.recall_in-answer.result
    c.recall_in-answer.ensures.recalls).attempts
