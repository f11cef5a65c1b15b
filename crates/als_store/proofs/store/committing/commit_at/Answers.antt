use Rattle.std.proofs.Common.{ap, ◌∙◌}
use Rattle.std.proofs.lemmas.Result.{err_from_is_err_and}
use Rattle.als_commits.specs.Committing.{writes_in}
use Rattle.als_store.proofs.DecisionLaws.{commits-written}
use Rattle.als_store.proofs.store.committing.commit_at.Goals as goal

pub returns-in_err-updates-clause-err : goal.returns-in_err-updates-clause-err
returns-in_err-updates-clause-err g c pages v judged =
    let p = err_from_is_err_and c.from_residual.result c.from_residual.ensures.1 in
    rw (p.1, p.2) (c.in_err-updates.ensures.err pages v judged)

pub returns-in-Ok-clause-ok : goal.returns-in-Ok-clause-ok
returns-in-Ok-clause-ok g c pages v judged doubt =
    commits-written c.args.log.now.log c.args.trans c.end-lsn.result c.in_ok-updates.updates.items _ v doubt c.end-lsn.ensures.end (c.in_ok-updates.ensures.ok pages v judged)
    (c.in-Ok.ensures ∙ ap writes_in c.as_slice.ensures.value)
