use Rattle.std.proofs.Common.{◌≡◌, sym, subst}
use Rattle.als_store.specs.Spare.{Holding}
use Rattle.als_store.specs.Stored.{pending_of}
use Rattle.als_store.proofs.StoredParts.{stored-ready}
use Rattle.als_store.proofs.store.Store.ready.Goals as goal

pub invariant_of-self : goal.invariant_of-self
invariant_of-self g c =
    let s = c.self.inside in
    stored-ready s.pages s.count s.log s.control s.pool.pool s.validator s.broken s.origin
    s.recovering c.self.invariant
    (subst (λ (h : Holding). pending_of h.stored ≡ 0) (sym c.self.view_is) c.requires)
