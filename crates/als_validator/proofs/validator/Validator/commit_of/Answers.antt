use Rattle.std.proofs.Common.{[], ◌∷◌, ◌++◌, sym, ap, ◌∙◌}
use Rattle.als_record.specs.Commits.{commits_of}
use Rattle.als_record.specs.Shown.{shown}
use Rattle.als_validator.proofs.CommitLaws.{commits_of-other, commits_of-own}
use Rattle.als_validator.proofs.validator.Validator.commit_of.Goals as goal

pub returns-then-not-is_commit_record-clause-ok : goal.returns-then-not-is_commit_record-clause-ok
returns-then-not-is_commit_record-clause-ok c pages log v l fits at good =
    commits_of-other log (shown c.args.logged.now) l.valid at good (sym c.if-not-is_commit_record.ensures)

pub returns-in-Ok-clause-ok : goal.returns-in-Ok-clause-ok
returns-in-Ok-clause-ok c pages log v l fits at good =
    commits_of-own log (shown c.args.logged.now) l.valid at good (sym c.if-not-is_commit_record.ensures) c.survivors_of-survivors.result.now (c.survivors_of-survivors.ensures pages log v)
    ∙ ap (λ x. commits_of log ++ x ∷ []) (sym c.in-Ok.ensures.ok)
