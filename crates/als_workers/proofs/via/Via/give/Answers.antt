use Rattle.std.proofs.Common.{[], ◌∷◌, refl}
use Rattle.als_engine.specs.declared.event.Event.TheVariants as event
use Rattle.als_workers.proofs.Tallies.{one}
use Rattle.als_workers.proofs.via.Via.give.Goals as goal

pub returns-clause-gives : goal.returns-clause-gives
returns-clause-gives g c = one (event.Give ∷ []) event.Give _ _ _ refl c.give.ensures.told
