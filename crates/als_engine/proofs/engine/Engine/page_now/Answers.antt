use Rattle.als_engine.proofs.PageLaws.{shows_keeps}
use Rattle.als_engine.proofs.engine.Engine.page_now.Goals as goal

pub returns-clause-keeps : goal.returns-clause-keeps
returns-clause-keeps g c =
    shows_keeps c.args.self.now.machine c.page_now_in.new.self.machine c.args.page
    c.page_now_in.result c.page_now_in.ensures.shows
