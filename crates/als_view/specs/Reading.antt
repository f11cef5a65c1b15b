-- What an answer says of a log.
use Rattle.std.specs.Prelude.{◌≡◌, ℕ, nat_lt, ◌&&◌, List, ◌++◌, length, None, if◌then◌else◌}
use Rattle.std.specs.List.{AllByRecursion}
use Rattle.als_record.specs.declared.key.Key.{Key}
use Rattle.als_record.specs.declared.record.Record.{Record}
use Rattle.als_record.specs.Images.{won}
use Rattle.als_record.specs.Commits.{commits_of}
use Rattle.als_commits.specs.Counting.{IsEnded, last_of}
use Rattle.als_commits.specs.Fronts.{EndsWithCommit}
use Rattle.als_view.specs.declared.answer.Answer.{Answer}

-- An answer is of a front of the log, which ends with a commit: the value that the committed transactions of this front left at the key,
-- how many they are, and the LSN of the last one. They all end at or below what is acknowledged.
pub record ReadsFront (log : List Record) (acknowledged pages : ℕ) (key : Key) (answer : Answer) : Type 0 where
  pub front : List Record
  pub rest : List Record
  pub parts : log ≡ front ++ rest
  pub ends : EndsWithCommit front
  pub value : answer.value ≡ (if nat_lt key.page pages && nat_lt key.slot 15 then won front key else None)
  pub commits : answer.commits ≡ length (commits_of front)
  pub lsn : answer.lsn.0 ≡ last_of (commits_of front)
  pub ended : AllByRecursion (IsEnded acknowledged) (commits_of front)
