use Rattle.std.proofs.Common.{ap, ◌∙◌}
use Rattle.als_engine.specs.Machine.{Machine}
use Rattle.als_engine.proofs.KeepLaws.{keeps_then}
use Rattle.als_engine.proofs.LeaseLaws.{give_keeps}
use Rattle.als_engine.proofs.engine.Engine.give.Goals as goal

pub returns-clause-keeps : goal.returns-clause-keeps
returns-clause-keeps g c =
    keeps_then c.args.self.now.machine c.give_in-answer.new.self.machine c.note.new.self.machine
    c.note.ensures.machine
    (give_keeps c.args.self.now.machine c.give_in-answer.new.self.machine c.args.lease c.give_in-answer.result
    c.give_in-answer.ensures.gives).keeps

pub returns-clause-attempts : goal.returns-clause-attempts
returns-clause-attempts g c =
    ap (λ (m : Machine). m.held.attempts) c.note.ensures.machine
    ∙ (give_keeps c.args.self.now.machine c.give_in-answer.new.self.machine c.args.lease c.give_in-answer.result
    c.give_in-answer.ensures.gives).attempts
