use Rattle.std.proofs.Common.{true, ℕ, ◌≤◌, Err, sym, ap, subst, ◌∙◌, arith}
use Rattle.std.proofs.lemmas.Result.{err_from_is_err_and}
use Rattle.als_record.specs.LogText.{end_of}
use Rattle.als_pool.specs.Outcomes.{Lends as LendsPooled, RefusesLend}
use Rattle.als_store.specs.declared.fault.Fault.{Fault}
use Rattle.als_store.specs.Events.{NotLent}
use Rattle.als_store.specs.Views.{ShowsLend}
use Rattle.als_store.specs.Warm.{IsWarm, WasWarm}
use Rattle.als_store.specs.Parts.{stored_of}
use Rattle.als_store.specs.Spare.{Holding}
use Rattle.als_store.proofs.PoolSteps.{calm_lends, calm_refused, bad_page_from}
use Rattle.als_store.proofs.PageEvents.{lent, refused}
use Rattle.als_store.proofs.Showing.{shows_lend}
use Rattle.als_store.proofs.StoredParts.{stored-calm}
use Rattle.als_store.proofs.store.Store.lend.Goals as goal

pub invariant_of-self : goal.invariant_of-self
invariant_of-self g c =
    let s = c.self.inside in
    let h = c.self.invariant in
    stored-calm s.pages s.count s.log s.control s.pool.pool s.validator s.broken s.origin
    s.recovering h c.lend.new.self.pool
    (calm_refused c.in_err-lease.field-0.0 s.pool c.lend.new.self c.args.page c.end-end.result.0
    c.in_err-lease.ensures.err).0
    (c.in_err-lease.ensures.ends (end_of s.log.log) (omega (arith, c.end-end.ensures.end))
    h.paged.ends)
    (λ is. record {
      is_pool =
          c.in_err-lease.ensures.keeps s.log.log s.control.synced.mark.0 is;
      grows =
          c.in_err-lease.ensures.grows s.log.log s.control.synced.mark.0 is;
    })

pub invariant_of-self-2 : goal.invariant_of-self-2
invariant_of-self-2 g c =
    let s = c.self.inside in
    let h = c.self.invariant in
    stored-calm s.pages s.count s.log s.control s.pool.pool s.validator s.broken s.origin
    s.recovering h c.lend.new.self.pool
    (calm_lends s.pool.pool c.lend.new.self.pool c.args.page c.end-end.result.0 c.in_ok-lease.lease
    c.in_ok-lease.ensures.ok).0
    (c.in_ok-lease.ensures.ends (end_of s.log.log) (omega (arith, c.end-end.ensures.end))
    h.paged.ends)
    (λ is. record {
      is_pool =
          c.in_ok-lease.ensures.keeps s.log.log s.control.synced.mark.0 is;
      grows =
          c.in_ok-lease.ensures.grows s.log.log s.control.synced.mark.0 is;
    })

pub returns-clause-ok : goal.returns-clause-ok
returns-clause-ok g c =
    let s = c.self.inside in
    let done = subst (λ (n : ℕ). LendsPooled s.pool.pool c.lend.new.self.pool c.args.page n
    c.in_ok-lease.lease) c.end-end.ensures.end c.in_ok-lease.ensures.ok in
    rw (← c.self.view_is)
    (lent s.pages s.count s.log s.control s.pool.pool s.validator s.broken s.origin s.recovering
    c.self.invariant c.lend.new.self.pool c.args.page c.in_ok-lease.lease done)

pub returns-in_err-lease-clause-err : goal.returns-in_err-lease-clause-err
returns-in_err-lease-clause-err g c =
    let s = c.self.inside in
    let p = err_from_is_err_and c.from_residual.result c.from_residual.ensures.1 in
    let e = c.in_err-lease.field-0.0 in
    let pool' = c.lend.new.self in
    let r = subst (λ (n : ℕ). RefusesLend e s.pool pool' c.args.page n) c.end-end.ensures.end
    c.in_err-lease.ensures.err in
    let new = stored_of s.pages s.log s.control pool'.pool s.broken s.origin s.recovering in
    let it : NotLent (stored_of s.pages s.log s.control s.pool.pool s.broken s.origin
    s.recovering) c.args.page p.0 new
    = subst (λ (f : Fault).
    NotLent (stored_of s.pages s.log s.control s.pool.pool s.broken s.origin s.recovering)
    c.args.page f new) (sym p.2)
    (refused s.pages s.count s.log s.control s.pool.pool s.validator s.broken s.origin s.recovering
    c.self.invariant e s.pool.room pool'.room pool'.pool c.args.page r) in
    let seen : NotLent c.args.self.now.stored c.args.page p.0 new =
    subst (λ (x : Holding). NotLent x.stored c.args.page p.0 new) c.self.view_is it in
    rw p.1 seen

pub returns-in_err-lease-clause-sound : goal.returns-in_err-lease-clause-sound
returns-in_err-lease-clause-sound g c =
    let s = c.self.inside in
    let p = err_from_is_err_and c.from_residual.result c.from_residual.ensures.1 in
    let within : end_of s.log.log ≤ c.end-end.result.0 = omega (arith, c.end-end.ensures.end) in
    let warm = subst (λ (x : Holding). WasWarm x.stored
    → IsWarm true s.origin) c.self.view_is (λ was. was) in
    rw p.1 (λ was is. c.in_err-lease.ensures.sound s.log.log s.control.synced.mark.0
    (c.self.invariant.warm (warm was)).is_pool within
    (ap Err (bad_page_from c.in_err-lease.field-0.0 c.args.page (sym p.2 ∙ is))))

pub returns-clause-views : goal.returns-clause-views
returns-clause-views g c =
    let s = c.self.inside in
    let new = c.lend.new.self.pool in
    let e = c.in_ok-lease.ensures in
    let below = s.control.synced.mark.0 in
    let it : IsWarm true s.origin → ShowsLend s.log.log s.pool.pool c.args.page c.in_ok-lease.lease new
    = λ was.
    let is = (c.self.invariant.warm was).is_pool in
    shows_lend s.log.log below s.pool.pool new c.args.page c.end-end.result.0 c.in_ok-lease.lease e.ok
    is (e.keeps s.log.log below is) (e.others s.log.log below is)
    (e.history s.log.log below is).0 in
    subst (λ (x : Holding). WasWarm x.stored
    → ShowsLend x.stored.log x.stored.pool c.args.page c.in_ok-lease.lease new) c.self.view_is it
