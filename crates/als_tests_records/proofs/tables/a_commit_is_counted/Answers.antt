use Rattle.std.proofs.Common.{arith}
use Rattle.als_tables.specs.Counting.{commit_count}
use Rattle.als_tests_records.proofs.tables.a_commit_is_counted.Goals as goal

pub note-requires-clause-commits : goal.note-requires-clause-commits
unfolding commit_count
note-requires-clause-commits g c = rw c.new-count.ensures.commits (omega arith)
