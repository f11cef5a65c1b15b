use Rattle.als_store.proofs.FinishedLaws.{finished}
use Rattle.als_store.proofs.store.Store.is_primary.Goals as goal

pub returns-in-Primary-clause-finished : goal.returns-in-Primary-clause-finished
returns-in-Primary-clause-finished g c =
    let s = c.self.inside in
    rw (← c.self.view_is) (λ was ready done. finished s.pages s.count s.log s.control s.pool.pool s.validator s.broken s.origin s.recovering c.self.invariant was ready done)
