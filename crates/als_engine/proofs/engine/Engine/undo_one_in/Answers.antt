use Rattle.std.proofs.Common.{◌≡◌, Err, sym, ap, ◌∙◌}
use Rattle.als_engine.specs.declared.fault.Fault.TheVariants as fault
use Rattle.std.proofs.lemmas.Result.{err_from_is_err_and}
use Rattle.als_engine.proofs.ReaderLaws.{seen_undone, serving_not_undone}
use Rattle.als_engine.proofs.ReadyLaws.{ready_undone, undo_wants}
use Rattle.als_engine.proofs.engine.Engine.undo_one_in.Goals as goal

pub returns-in_err-lsn-clause-reserved : goal.returns-in_err-lsn-clause-reserved
returns-in_err-lsn-clause-reserved g c =
    let p = err_from_is_err_and c.from_residual.result c.from_residual.ensures.1 in
    rw (← c.self.view_is, p.1) (λ room is.
    let same : p.0 ≡ fault.Memory = cc is in
    c.in_err-lsn.ensures.reserved room
    (ap Err (undo_wants c.self.inside.store.stored c.undo_one.new.self.stored
    c.in_err-lsn.field-0.0 c.in_err-lsn.ensures.err (sym p.2 ∙ same))))

pub invariant_of-self : goal.invariant_of-self
invariant_of-self g c =
    let s = c.self.inside in
    serving_not_undone s.store.stored c.undo_one.new.self.stored s.receiver s.refused s.shown
    c.in_err-lsn.field-0.0 c.self.invariant c.in_err-lsn.ensures.err

pub invariant_of-self-2 : goal.invariant_of-self-2
invariant_of-self-2 g c =
    let s = c.self.inside in
    record {
      ready = ready_undone s.store.stored c.undo_one.new.self.stored s.receiver c.new.result
          s.refused c.in_ok-lsn.lsn c.end.result.0 c.pages.result c.self.invariant.ready
          c.in_ok-lsn.ensures.ok c.new.ensures c.end.ensures.end c.pages.ensures;
      seen = seen_undone s.store.stored c.undo_one.new.self.stored s.shown c.in_ok-lsn.lsn
          c.self.invariant.seen c.in_ok-lsn.ensures.ok c.end.ensures.log.valid
          (sym c.is_recovering.ensures ∙ c.if-is_recovering.false) c.a_view_goes_on.ensures.other;
    }
