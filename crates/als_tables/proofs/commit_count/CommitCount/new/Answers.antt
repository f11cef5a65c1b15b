use Rattle.std.proofs.Common.{refl}
use Rattle.als_tables.specs.Counting.{commit_count, last_commit}
use Rattle.als_tables.proofs.commit_count.CommitCount.new.Goals as goal

pub returns : goal.returns
unfolding commit_count last_commit
returns c = record { records = refl; commits = refl; last = refl }
