use Rattle.std.proofs.Common.{ap, ◌∙◌}
use Rattle.als_record.specs.Transactions.{unended, in_doubt}
use Rattle.als_record.specs.Images.{kept}
use Rattle.als_record.specs.Commits.{commits_of}
use Rattle.als_record.specs.Tail.{tail_of}
use Rattle.als_writing.proofs.Preparing.{prepared-is, unended_prepared, in_doubt_prepared, commits_prepared, kept_prepared, may_follow_all-prepared, tail_of-prepared, IsValidLog-prepared}
use Rattle.als_writing.proofs.prepared.prepared_follows.Goals as goal

pub returns-clause-valid : goal.returns-clause-valid
returns-clause-valid c pages log t writes l m room = IsValidLog-prepared pages log t writes l m room

pub returns-clause-each : goal.returns-clause-each
returns-clause-each c pages log t writes l m = may_follow_all-prepared pages log t writes l.valid m

pub returns-clause-unended : goal.returns-clause-unended
returns-clause-unended c pages log t writes l m = ap unended (prepared-is pages log t writes l.valid m) ∙ unended_prepared pages log t writes l.valid m

pub returns-clause-doubted : goal.returns-clause-doubted
returns-clause-doubted c pages log t writes l m = ap in_doubt (prepared-is pages log t writes l.valid m) ∙ in_doubt_prepared pages log t writes l.valid m

pub returns-clause-commits : goal.returns-clause-commits
returns-clause-commits c pages log t writes l m = ap commits_of (prepared-is pages log t writes l.valid m) ∙ commits_prepared pages log t writes l.valid m

pub returns-clause-kept : goal.returns-clause-kept
returns-clause-kept c pages log t writes l m k = ap (λ l. kept l k) (prepared-is pages log t writes l.valid m) ∙ kept_prepared pages log t writes l.valid m k

pub returns-clause-owed : goal.returns-clause-owed
returns-clause-owed c pages log t writes l m tidy = ap tail_of (prepared-is pages log t writes l.valid m) ∙ tail_of-prepared pages log t writes l.valid m tidy
