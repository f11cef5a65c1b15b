-- What an answer says.
use Rattle.std.specs.Prelude.{◌≡◌, ℕ, nat_lt, ◌&&◌, List, length, Option, Some, None, if◌then◌else◌}
use Rattle.als_record.specs.declared.key.Key.{Key}
use Rattle.als_record.specs.Commits.{Commit, seen_after}
use Rattle.als_view.specs.Entries.{AreCommits}
use Rattle.als_commits.specs.Counting.{last_of}
use Rattle.als_view.specs.declared.answer.Answer.{Answer}
use Rattle.als_view.specs.declared.fault.Fault.{Fault}
use Rattle.als_view.specs.declared.fault.Fault.TheVariants.{Warming, Stopped}

-- an answer is of these commits: the image of the key after them, their number, and the LSN of the last one
pub record Answers (answer : Answer) (pages : ℕ) (key : Key) (front : List Commit) : Type 0 where
  pub value : answer.value ≡ (if nat_lt key.page pages && nat_lt key.slot 15 then seen_after front key else None)
  pub commits : answer.commits ≡ length front
  pub lsn : answer.lsn.0 ≡ last_of front

-- the answer is of this list, which has the commits of a valid log
abbrev pub IsAnswer : ℕ → Key → Option (List Commit) → Answer → Type 0
IsAnswer pages key None a = ⊥
IsAnswer pages key (Some commits) a = Answers a pages key commits × AreCommits commits

-- a reader that knows of a list is never told that there is none
abbrev pub IsRefusal : Option (List Commit) → Fault → Type 0
IsRefusal known Warming = known ≡ None
IsRefusal known Stopped = Unit {0}
