use Rattle.std.proofs.lemmas.Result.{err_from_is_err_and}
use Rattle.als_operate.proofs.Refusing.{store_refused}
use Rattle.als_operate.proofs.upkeep.StandbyUpkeepUpkeep.keep_up.Goals as goal

pub returns-in_err-publish-clause-fails : goal.returns-in_err-publish-clause-fails
returns-in_err-publish-clause-fails g c =
    let found = c.in_err-publish.ensures.fails in
    let p = err_from_is_err_and c.from_residual.result c.from_residual.ensures.1 in rw (p.1, p.2) found

pub returns-in_err-store-clause-fails : goal.returns-in_err-store-clause-fails
returns-in_err-store-clause-fails g c =
    let new = g.E.Events.machine c.store.new.events in
    let found = λ (a : g.E.Events.alone). store_refused c.in_err-store.field-0.0 new (c.in_err-store.ensures.fails a) in
    let p = err_from_is_err_and c.from_residual-in_err-store.result c.from_residual-in_err-store.ensures.1 in rw (p.1, p.2) found
