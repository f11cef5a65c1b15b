use Rattle.als_engine.proofs.KeepLaws.{keeps_then}
use Rattle.als_engine.proofs.StepLaws.{keeps_publish_view}
use Rattle.als_engine.proofs.engine.Engine.publish_view.Goals as goal

pub returns-clause-keeps : goal.returns-clause-keeps
returns-clause-keeps g c =
    keeps_then c.args.self.now.machine c.publish_view_in-answer.new.self.machine c.note.new.self.machine
    c.note.ensures.machine
    (keeps_publish_view c.args.self.now.machine c.publish_view_in-answer.new.self.machine c.publish_view_in-answer.result
    c.publish_view_in-answer.ensures.publishes)
