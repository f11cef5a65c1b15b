use Rattle.std.proofs.Common.{true, ap, subst, arith}
use Rattle.als_record.specs.declared.lsn.Lsn.{Lsn}
use Rattle.als_record.specs.LogText.{end_of}
use Rattle.als_pool.specs.declared.fault.Fault.{Fault}
use Rattle.als_pool.specs.Outcomes.{FlushFails, RefusesFlush}
use Rattle.als_pool.specs.Queues.{total_waiting}
use Rattle.als_pool.specs.Pooled.{Pooled}
use Rattle.als_store.proofs.StoredParts.{stored-pool, pool-flushed, pool-broken}
use Rattle.als_store.proofs.store.Store.flush.Goals as goal

pub invariant_of-self : goal.invariant_of-self
invariant_of-self g c =
    let s = c.self.inside in
    let h = c.self.invariant in
    let new = c.flush_one.new.self.pool in
    let mark = c.acknowledged-acknowledged.result in
    let at = ap (λ (l : Lsn). l.0) c.acknowledged-acknowledged.ensures.mark in
    stored-pool s.pages s.count s.log s.control s.pool.pool s.validator s.broken s.origin
    s.recovering h new s.broken
    (pool-flushed s.pages s.log.log s.pool.pool new c.args.page mark s.broken h.paged
    c.in-Ok.ensures.ok (c.in-Ok.ensures.ends (end_of s.log.log) h.paged.ends))
    (omega (arith, ap (λ (v : Pooled). total_waiting v.waits) c.in-Ok.ensures.ok.stores.same))
    (λ is. record {
      is_pool =
          c.in-Ok.ensures.keeps s.log.log s.control.synced.mark.0 (omega (arith, at)) is;
      grows = c.in-Ok.ensures.grows s.log.log s.control.synced.mark.0 (omega (arith, at))
          is;
    }) (λ e. e)

pub invariant_of-self-in-Err-Device : goal.invariant_of-self-in-Err-Device
invariant_of-self-in-Err-Device g c =
    let s = c.self.inside in
    let h = c.self.invariant in
    let e = c.in-Err-Device.ensures in
    let new = c.flush_one.new.self.pool in
    let mark = c.acknowledged-acknowledged.result in
    let at = ap (λ (l : Lsn). l.0) c.acknowledged-acknowledged.ensures.mark in
    let refused = subst (λ (f : Fault). RefusesFlush f s.pool.pool new c.args.page mark)
    c.in-Err-Device.field-0-is e.err in
    let fails : FlushFails s.pool.pool new c.args.page mark = refused.1 in
    stored-pool s.pages s.count s.log s.control s.pool.pool s.validator s.broken s.origin
    s.recovering h new true
    (pool-broken s.pages s.log.log s.pool.pool new s.broken h.paged fails.same
    (e.ends (end_of s.log.log) h.paged.ends))
    (omega (arith, ap (λ (v : Pooled). total_waiting v.waits) fails.same))
    (λ is. record {
      is_pool =
          e.keeps s.log.log s.control.synced.mark.0 (omega (arith, at)) is;
      grows =
          e.grows s.log.log s.control.synced.mark.0 (omega (arith, at)) is;
    })
    (λ wrong. absurd cc)
