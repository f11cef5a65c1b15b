use Rattle.std.proofs.Common.{refl}
use Rattle.als_engine.proofs.engine.Engine.key_now.Goals as goal

pub returns-in-Some : goal.returns-in-Some
returns-in-Some g c = rw (← c.in-Some.ensures.is) refl

pub returns-in-None : goal.returns-in-None
returns-in-None g c = rw (← c.in-None.ensures.is) c.own_key.ensures
