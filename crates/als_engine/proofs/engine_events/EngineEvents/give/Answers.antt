use Rattle.als_engine.proofs.LeaseLaws.{give_back}
use Rattle.als_engine.proofs.engine_events.EngineEvents.give.Goals as goal

pub returns-clause-back : goal.returns-clause-back
returns-clause-back g c =
    give_back c.args.self.now.machine c.give.new.self.machine c.args.lease c.give.result c.give.ensures.gives
