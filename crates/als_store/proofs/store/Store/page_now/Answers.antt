use Rattle.std.proofs.Common.{Err, sym, ap, subst, ◌∙◌}
use Rattle.std.proofs.lemmas.Result.{err_from_is_err_and}
use Rattle.als_record.specs.LogText.{end_of}
use Rattle.als_store.specs.declared.fault.Fault.{Fault}
use Rattle.als_store.specs.Events.{NotShown}
use Rattle.als_store.specs.Parts.{stored_of}
use Rattle.als_store.proofs.PoolSteps.{bad_page_from}
use Rattle.als_store.proofs.PageEvents.{not_shown}
use Rattle.als_store.proofs.StoredParts.{stored-calm}
use Rattle.als_store.proofs.Unshown.{calm_unshown, grows_unshown}
use Rattle.als_store.proofs.store.Store.page_now.Goals as goal

pub returns-clause-ok : goal.returns-clause-ok
returns-clause-ok g c =
    let s = c.self.inside in
    rw (← c.self.view_is)
    (λ was. record {
      number = c.in_ok-found.ensures.number;
      content =
          c.in_ok-found.ensures.history s.log.log s.control.synced.mark.0
          (c.self.invariant.warm was).is_pool;
    })

pub returns-in_err-found-clause-err : goal.returns-in_err-found-clause-err
returns-in_err-found-clause-err g c =
    let s = c.self.inside in
    let old = s.pool.pool in
    let new = c.page_now.new.self.pool in
    let p = err_from_is_err_and c.from_residual.result c.from_residual.ensures.1 in
    let fails : NotShown (stored_of s.pages s.log s.control old s.broken s.origin s.recovering)
    c.args.page p.0 (stored_of s.pages s.log s.control new s.broken s.origin s.recovering)
    = subst (λ (f : Fault).
    NotShown (stored_of s.pages s.log s.control old s.broken s.origin s.recovering) c.args.page
    f (stored_of s.pages s.log s.control new s.broken s.origin s.recovering)) (sym p.2)
    (not_shown s.pages s.count s.log s.control old s.validator s.broken s.origin s.recovering
    c.self.invariant c.in_err-found.field-0.0 new c.args.page c.in_err-found.ensures.err) in
    rw (p.1, ← c.self.view_is) fails

pub returns-in_err-found-clause-sound : goal.returns-in_err-found-clause-sound
returns-in_err-found-clause-sound g c =
    let s = c.self.inside in
    let p = err_from_is_err_and c.from_residual.result c.from_residual.ensures.1 in
    rw (p.1, ← c.self.view_is)
    (λ was is. c.in_err-found.ensures.sound s.log.log s.control.synced.mark.0
    (c.self.invariant.warm was).is_pool
    (ap Err (bad_page_from c.in_err-found.field-0.0 c.args.page (sym p.2 ∙ is))))

pub invariant_of-self : goal.invariant_of-self
invariant_of-self g c =
    let s = c.self.inside in
    let h = c.self.invariant in
    let e = c.in_err-found.ensures in
    let reason = c.in_err-found.field-0.0 in
    let new = c.page_now.new.self.pool in
    stored-calm s.pages s.count s.log s.control s.pool.pool s.validator s.broken s.origin
    s.recovering h new
    (calm_unshown reason s.pool.pool new c.args.page e.err) (e.ends (end_of s.log.log) h.paged.ends)
    (λ is. record {
      is_pool = e.keeps s.log.log s.control.synced.mark.0 is;
      grows =
          grows_unshown reason s.pool.pool new c.args.page e.err;
    })
