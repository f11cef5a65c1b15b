use Rattle.std.proofs.Common.{sym, subst}
use Rattle.als_store.specs.declared.fault.Fault.{Fault}
use Rattle.als_store.specs.Takeover.{CannotCollect}
use Rattle.als_store.proofs.DecisionLaws.{not_collected}
use Rattle.als_store.proofs.store.committing.collect.Goals as goal

pub returns-in-Ok-clause-ok : goal.returns-in-Ok-clause-ok
returns-in-Ok-clause-ok g c pages v judged = c.in-Ok.ensures.ok v (c.table.ensures.table pages c.args.log.now.log judged)

pub returns-in-Err-clause-err : goal.returns-in-Err-clause-err
returns-in-Err-clause-err g c pages v judged =
    subst (λ (f : Fault). CannotCollect f c.args.log.now c.survivors.new.log) (sym c.fault_of.ensures)
    (not_collected c.in-Err.fault c.args.log.now c.survivors.new.log (c.in-Err.ensures.err v (c.table.ensures.table pages c.args.log.now.log judged)))
