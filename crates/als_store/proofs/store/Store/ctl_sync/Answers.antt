use Rattle.als_ckpt.specs.Control.{newest}
use Rattle.std.proofs.Common.{sym, subst}
use Rattle.als_ckpt.specs.Control.{Controlled}
use Rattle.als_store.specs.Takeover.{GoesOn}
use Rattle.als_store.proofs.TakeoverLaws.{phases_from}
use Rattle.als_store.proofs.StoredParts.{stored-settled}
use Rattle.als_store.proofs.store.Store.ctl_sync.Goals as goal

pub invariant_of-self : goal.invariant_of-self
invariant_of-self g c =
    let s = c.self.inside in
    let rises = c.in-Ok.ensures.rises in
    stored-settled s.pages s.count s.log s.control s.pool.pool s.validator s.broken s.origin
    s.recovering c.self.invariant c.sync.new.self c.in-Ok.ensures.ok rises
    (c.mark_changes_nothing.ensures s.log.log s.control.synced.mark.0 (newest s.control).mark.0
    s.pool.pool rises)

pub returns-in-Ok-clause-goes_on : goal.returns-in-Ok-clause-goes_on
returns-in-Ok-clause-goes_on g c =
    let s = c.self.inside in
    rw (← c.self.view_is)
    (subst (λ (x : Controlled). GoesOn s.control.synced x.synced) (sym c.in-Ok.ensures.ok)
    (phases_from s.control.synced s.control.since c.self.invariant.rise))
