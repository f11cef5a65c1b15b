-- What a checkpoint counts of a log.
use Rattle.std.specs.Prelude.{◌≡◌, ℕ, List, length, filter, if◌then◌else◌}
use Rattle.std.specs.List.{fold}
use Rattle.als_record.specs.declared.record.Record.{Record}
use Rattle.als_record.specs.Transactions.{is_commit}
use Rattle.als_tables.specs.declared.commit_count.CommitCount.{CommitCount}

-- how many commit records a log has
unfoldable pub commit_count : List Record → ℕ
commit_count log = length (filter (λ r. is_commit r.body) log)

-- the LSN of the last commit record, 0 where there is none
unfoldable pub last_commit : List Record → ℕ
last_commit log = fold (λ last r. if is_commit r.body then r.lsn.0 else last) 0 log

-- the counts are those of the log
pub record IsCountOf (count : CommitCount) (log : List Record) : Type 0 where
  pub records : count.records ≡ length log
  pub commits : count.commits ≡ commit_count log
  pub last : count.last_commit.0 ≡ last_commit log
