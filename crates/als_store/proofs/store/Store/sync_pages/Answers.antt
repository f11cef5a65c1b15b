use Rattle.std.proofs.Common.{true, ap, subst, ◌∙◌, arith}
use Rattle.als_record.specs.LogText.{end_of}
use Rattle.als_pool.specs.Queues.{total_waiting}
use Rattle.als_pool.specs.Pooled.{Pooled}
use Rattle.als_store.specs.Spare.{Holding}
use Rattle.als_store.specs.Views.{ShowsSync}
use Rattle.als_store.specs.Warm.{IsWarm, WasWarm}
use Rattle.als_store.proofs.Showing.{shows_sync}
use Rattle.als_store.proofs.StoredParts.{stored-pool, pool-synced}
use Rattle.als_store.proofs.store.Store.sync_pages.Goals as goal

pub invariant_of-self : goal.invariant_of-self
invariant_of-self g c =
    let s = c.self.inside in
    let h = c.self.invariant in
    let whole = ap (λ (x : Holding). x.stored.broken) c.self.view_is ∙ c.requires in
    stored-pool s.pages s.count s.log s.control s.pool.pool s.validator s.broken s.origin
    s.recovering h c.sync_pages.new.self.pool s.broken
    (pool-synced s.pages s.log.log s.pool.pool c.sync_pages.new.self.pool s.broken h.paged
    c.in-Ok.ensures.ok
    (c.in-Ok.ensures.ends (end_of s.log.log) h.paged.ends))
    (omega (arith, ap (λ (v : Pooled). total_waiting v.waits) c.in-Ok.ensures.ok.same))
    (λ is. record {
      is_pool =
          c.in-Ok.ensures.keeps s.log.log s.control.synced.mark.0 (h.paged.sure whole) is;
      grows = c.in-Ok.ensures.grows s.log.log s.control.synced.mark.0 (h.paged.sure whole)
          is;
    }) (λ e. e)

pub returns-in-Ok-clause-views : goal.returns-in-Ok-clause-views
returns-in-Ok-clause-views g c =
    let s = c.self.inside in
    let h = c.self.invariant in
    let new = c.sync_pages.new.self.pool in
    let whole = ap (λ (x : Holding). x.stored.broken) c.self.view_is ∙ c.requires in
    let it : IsWarm true s.origin → ShowsSync s.log.log s.pool.pool new
    = λ was. shows_sync s.log.log s.control.synced.mark.0 s.pool.pool new c.in-Ok.ensures.ok
    (h.paged.sure whole) (h.warm was).is_pool in
    subst (λ (x : Holding). WasWarm x.stored
    → ShowsSync x.stored.log x.stored.pool new) c.self.view_is it
