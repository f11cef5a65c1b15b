use Rattle.std.proofs.Common.{ℕ, List}
use Rattle.als_record.specs.Transactions.{unended}
use Rattle.als_record.specs.Spelling.{Image}
use Rattle.als_record.specs.Images.{image_now}
use Rattle.als_record.specs.Commits.{Commit, commits_of}
use Rattle.als_writing.proofs.Rolling.{RolledBack-front}
use Rattle.als_writing.proofs.Owed.{tail_of-committed, tail_of-whole, tail_of-front, tail_of-any}
use Rattle.als_writing.proofs.stopped.tail_ends_a_transaction.Goals as goal

pub returns-clause-undone : goal.returns-clause-undone
returns-clause-undone c pages log t writes n l tidy m some = tail_of-front pages log t writes l.valid m tidy n some

pub returns-clause-commits : goal.returns-clause-commits
returns-clause-commits c pages log t writes n l tidy m = tail_of-any pages log t writes l.valid m tidy (List Commit) commits_of n (RolledBack-front pages log t writes n l.valid m).commits

pub returns-clause-unended : goal.returns-clause-unended
returns-clause-unended c pages log t writes n l tidy m = tail_of-any pages log t writes l.valid m tidy (List ℕ) unended n (RolledBack-front pages log t writes n l.valid m).unended

pub returns-clause-now : goal.returns-clause-now
returns-clause-now c pages log t writes n l tidy m k = tail_of-any pages log t writes l.valid m tidy Image (λ log. image_now log k) n ((RolledBack-front pages log t writes n l.valid m).now k)

pub returns-clause-ended : goal.returns-clause-ended
returns-clause-ended c pages log t w rest l tidy m = tail_of-committed log tidy pages t l.valid w rest m

pub returns-clause-whole : goal.returns-clause-whole
returns-clause-whole c pages log t w rest l tidy m = tail_of-whole log tidy pages t l.valid w rest m
