-- A queue of commits.
use Rattle.std.specs.Prelude.{ℕ, List}
use Rattle.als_record.specs.Commits.{Commit}

-- The commits that wait, in the order of the log, and how many more the queue takes without memory.
pub record Waiting : Type 0 where
  pub queued : List Commit
  pub room : ℕ
