-- What a restart takes of a record of the log.
use Rattle.std.specs.Prelude.{◌≡◌, ℕ, ◌+◌, ◌<◌, ◌≤◌, ◌^◌, List, [], ◌∷◌, ◌++◌, Option, Some, None, IfSome, IsSome}
use Rattle.als_record.specs.declared.change.Change.{Change}
use Rattle.als_record.specs.declared.lsn.Lsn.{Lsn}
use Rattle.als_record.specs.declared.record.Record.{Record}
use Rattle.als_record.specs.declared.rows.LoggedPage.{LoggedPage}
use Rattle.als_record.specs.Commits.{Commit, commits_of}
use Rattle.als_record.specs.Pages.{change_of}
use Rattle.als_tables.specs.declared.commit_count.CommitCount.{CommitCount}
use Rattle.als_tables.specs.Counting.{IsCountOf}
use Rattle.als_pool.specs.Queues.{total_waiting}
use Rattle.als_pool.specs.Pooled.{Pooled, unread_of}
use Rattle.als_pool.specs.Outcomes.{CanRoute}
use Rattle.als_pool.specs.Images.{QueuesOf, IsFromOn}
use Rattle.als_pool.specs.Restart.{HasRowsFrom}
use Rattle.als_reopen.specs.Reading.{KeepsImages}

-- the page of a change
abbrev pub page_changed : Option Change → Option ℕ
page_changed None = None
page_changed (Some c) = Some c.key.page

-- its page was not read, its change can wait, and it can be counted
pub record CanTake (pool : Pooled) (count : CommitCount) (r : Record) : Type 0 where
  pub unread : IfSome (change_of r) (λ c. IsSome (unread_of pool.unread c.key.page))
  pub can : IfSome (change_of r) (λ c. IsFromOn pool c → CanRoute pool c)
  pub records : count.records < 2 ^ 62
  pub commits : count.commits < 2 ^ 62

-- It was taken behind these records: its change waits where it should, and so does its commit, and it is counted.
pub record Takes (old : Pooled) (counts : CommitCount) (before : List Commit) (log : List Record) (r : Record) (new : Pooled) (counted : CommitCount) (after : List Commit) : Type 0 where
  pub queues : QueuesOf log old → QueuesOf (log ++ r ∷ []) new
  pub given : (position : Lsn) (rows : List LoggedPage) → HasRowsFrom position rows old → HasRowsFrom position rows new
  pub few : total_waiting new.waits ≤ total_waiting old.waits + 1
  pub numbers : new.next ≡ old.next
  pub count : IsCountOf counts log → IsCountOf counted (log ++ r ∷ [])
  pub waits : before ≡ commits_of log → after ≡ commits_of (log ++ r ∷ [])

-- what blocks hold stays what they hold
pub record KeepsPages (old new : Pooled) : Type 0 where
  pub images : KeepsImages old new
  pub frames : new.frames ≡ old.frames
