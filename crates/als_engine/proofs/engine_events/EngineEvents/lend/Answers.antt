use Rattle.als_engine.proofs.LeaseLaws.{lend_fresh}
use Rattle.als_engine.proofs.engine_events.EngineEvents.lend.Goals as goal

pub returns-clause-fresh : goal.returns-clause-fresh
returns-clause-fresh g c =
    lend_fresh c.args.self.now.machine c.lend.new.self.machine c.args.page c.lend.result c.lend.ensures.lends
