use Rattle.als_engine.proofs.KeepLaws.{keeps_then}
use Rattle.als_engine.specs.Refusals.{feed_refusal}
use Rattle.als_engine.proofs.RefusalLaws.{keeps_feed}
use Rattle.als_engine.proofs.engine.Engine.feed.Goals as goal

pub returns-clause-keeps : goal.returns-clause-keeps
returns-clause-keeps g c =
    keeps_then c.args.self.now.machine c.feed_in-answer.new.self.machine c.note_taken.new.self.machine
    c.note_taken.ensures.machine
    (keeps_feed c.args.self.now.machine c.feed_in-answer.new.self.machine c.args.piece.now
    (feed_refusal c.args.self.now.machine) c.feed_in-answer.result c.feed_in-answer.ensures.feeds)
