use Rattle.als_store.proofs.StoredParts.{stored-synced}
use Rattle.als_store.proofs.store.Store.log_sync.Goals as goal

pub invariant_of-self : goal.invariant_of-self
invariant_of-self g c =
    let s = c.self.inside in
    stored-synced s.pages s.count s.log s.control s.pool.pool s.validator s.broken s.origin
    s.recovering c.self.invariant c.sync_log.new.log c.end.ensures.facts c.in-Ok.ensures.ok
