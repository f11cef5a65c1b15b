use Rattle.als_engine.proofs.KeepLaws.{keeps_then}
use Rattle.als_engine.proofs.StepLaws.{keeps_resolve}
use Rattle.als_engine.proofs.engine.Engine.resolve.Goals as goal

pub returns-clause-keeps : goal.returns-clause-keeps
returns-clause-keeps g c =
    keeps_then c.args.self.now.machine c.resolve_in-answer.new.self.machine c.note.new.self.machine
    c.note.ensures.machine
    (keeps_resolve c.args.self.now.machine c.resolve_in-answer.new.self.machine c.args.trans
    c.args.verdict c.resolve_in-answer.result c.resolve_in-answer.ensures.resolves)
