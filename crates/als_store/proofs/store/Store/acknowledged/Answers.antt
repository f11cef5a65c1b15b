use Rattle.std.proofs.Common.{arith, refl}
use Rattle.als_store.proofs.store.Store.acknowledged.Goals as goal

pub returns-clause-front : goal.returns-clause-front
returns-clause-front g c =
    rw (← c.self.view_is) (c.self.invariant.marks.fronts c.self.inside.control.synced
    (0, omega arith, refl))

pub returns-clause-seal : goal.returns-clause-seal
returns-clause-seal g c =
    rw (← c.self.view_is) ((c.acknowledged.ensures.facts.fits c.self.inside.control.synced
    (0, omega arith, refl)).seal)
