use Rattle.std.proofs.Common.{true, subst, sym}
use Rattle.als_record.specs.LogText.{end_of}
use Rattle.als_pool.specs.Pooled.{Held}
use Rattle.als_store.specs.Parts.{IsStored}
use Rattle.als_store.specs.Spare.{Holding}
use Rattle.als_store.specs.Views.{ShowsGive}
use Rattle.als_store.specs.Warm.{IsWarm, WasWarm}
use Rattle.als_store.proofs.PoolSteps.{calm_gives}
use Rattle.als_store.proofs.Showing.{shows_give}
use Rattle.als_store.proofs.StoredParts.{stored-calm}
use Rattle.als_store.proofs.store.Store.give.Goals as goal
use Rattle.als_store.proofs.store.Store.give.Goals.{in-Ok, in-Err}

pub invariant_of-self : goal.invariant_of-self
invariant_of-self g c =
    let s = c.self.inside in
    let h = c.self.invariant in
    let e = c.give.ensures in
    elim c.match-give.branch [
      | in-Ok w ↦
          stored-calm s.pages s.count s.log s.control s.pool.pool s.validator s.broken s.origin
          s.recovering h c.give.new.self.pool
          (calm_gives s.pool.pool c.give.new.self.pool c.args.lease w.in-Ok.ensures.ok).0
          (e.ends (end_of s.log.log) h.paged.ends)
          (λ is. record {
            is_pool = e.keeps s.log.log s.control.synced.mark.0 is;
            grows = e.grows;
          })
      | in-Err w ↦
          subst (λ (x : Held). IsStored s.pages s.log s.count s.control x.pool s.validator s.broken
          s.origin s.recovering) (sym w.in-Err.ensures.err.1) h
    ]

pub returns-clause-views : goal.returns-clause-views
returns-clause-views g c =
    let s = c.self.inside in
    let new = c.give.new.self.pool in
    let below = s.control.synced.mark.0 in
    elim c.match-give.branch [
      | in-Ok w ↦
          let gives = w.in-Ok.ensures.ok in
          let it : IsWarm true s.origin → ShowsGive s.log.log s.pool.pool c.args.lease new
          = λ was. shows_give s.log.log below s.pool.pool new c.args.lease gives
          (c.give.ensures.keeps s.log.log below (c.self.invariant.warm was).is_pool) in
          rw w.result-is
          (subst (λ (x : Holding). WasWarm x.stored
          → ShowsGive x.stored.log x.stored.pool c.args.lease new) c.self.view_is it)
      | in-Err w ↦ rw w.result-is (λ was. tt)
    ]
