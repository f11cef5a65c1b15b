use Rattle.als_record.specs.LogText.{end_of}
use Rattle.als_store.proofs.PoolSteps.{calm_recalls}
use Rattle.als_store.proofs.StoredParts.{stored-calm}
use Rattle.als_store.proofs.store.Store.recall.Goals as goal

pub invariant_of-self-2 : goal.invariant_of-self-2
invariant_of-self-2 g c =
    let s = c.self.inside in
    let h = c.self.invariant in
    let e = c.in_ok-recall.ensures in
    stored-calm s.pages s.count s.log s.control s.pool.pool s.validator s.broken s.origin
    s.recovering h c.recall.new.self.pool
    (calm_recalls s.pool.pool c.recall.new.self.pool c.args.page e.ok).0
    (e.ends (end_of s.log.log) h.paged.ends)
    (λ is. record {
      is_pool = e.keeps s.log.log s.control.synced.mark.0 is;
      grows = e.grows;
    })
