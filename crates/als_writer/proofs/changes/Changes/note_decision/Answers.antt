use Rattle.std.proofs.Common.{◌≡◌, ◌++◌, refl, ◌∙◌, ap}
use Rattle.als_record.specs.LogText.{end_of}
use Rattle.als_record.specs.Commits.{Commit, commits_of, writes_of}
use Rattle.als_store.specs.declared.decision.Decision.{Decision}
use Rattle.als_store.specs.declared.decision.Decision.TheVariants as decision_of
use Rattle.als_writer.specs.Deciding.{commits_by}
use Rattle.als_writer.proofs.LastBounds.{AreBounds-raised}
use Rattle.als_writer.proofs.Doubts.{rolled_bounds}
use Rattle.als_writer.proofs.changes.Changes.note_decision.Goals as goal

pub returns-in-Commit : goal.returns-in-Commit
returns-in-Commit c pages log more t a v at commits =
    let commit : Commit = record { trans = t; lsn = record { 0 = end_of log }; writes = writes_of log t.0 } in
    let is : c.args.verdict ≡ decision_of.Commit = c.in-Commit.is in
    let one : commits_of more ≡ commits_of log ++ commits_by log t decision_of.Commit = commits ∙ ap (λ (d : Decision). commits_of log ++ commits_by log t d) is in
    AreBounds-raised c.args.self.now c.raise_all.new.self pages log more commit v a one refl c.raise_all.ensures.count (λ i d lt. c.raise_all.ensures.each i d lt ∙ at)

pub returns-in-Rollback : goal.returns-in-Rollback
returns-in-Rollback c pages log more t a v at commits =
    let is : c.args.verdict ≡ decision_of.Rollback = c.in-Rollback.is in
    rolled_bounds c.args.self.now pages log more t a (commits ∙ ap (λ (d : Decision). commits_of log ++ commits_by log t d) is)
