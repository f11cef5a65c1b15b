-- What an answer of many keys says: all of it is of one front.
use Rattle.std.specs.Prelude.{◌≡◌, ℕ, nat_lt, ◌&&◌, Bool, List, length, map, Option, Some, None, if◌then◌else◌}
use Rattle.als_record.specs.declared.key.Key.{Key}
use Rattle.als_record.specs.Spelling.{Image}
use Rattle.als_record.specs.Commits.{Commit, seen_after}
use Rattle.als_commits.specs.Counting.{last_of}
use Rattle.als_view.specs.Entries.{AreCommits}
use Rattle.als_view.specs.declared.answer.Answer.{Answer}
use Rattle.als_view.specs.declared.many.Many.{Many}

-- a database with so many pages has the key
abbrev pub is_key : ℕ → Key → Bool
is_key pages key = nat_lt key.page pages && nat_lt key.slot 15

-- what a key has after these commits; a key outside the database has nothing
abbrev pub image_at : ℕ → List Commit → Key → Image
image_at pages front key = if nat_lt key.page pages && nat_lt key.slot 15 then seen_after front key else None

-- the answer is of these commits: the image of each key after them, in the keys' order, their number, and the LSN of the last one
pub record AnswersAll (answer : Many) (pages : ℕ) (keys : List Key) (front : List Commit) : Type 0 where
  pub images : answer.images.items ≡ map (image_at pages front) keys
  pub commits : answer.commits ≡ length front
  pub lsn : answer.lsn.0 ≡ last_of front

-- the answer is of this list, which has the commits of a valid log
abbrev pub IsAnswerOfAll : ℕ → List Key → Option (List Commit) → Many → Type 0
IsAnswerOfAll pages keys None a = ⊥
IsAnswerOfAll pages keys (Some commits) a = AnswersAll a pages keys commits × AreCommits commits

-- one image of an answer, as the answer of a read of its key alone
abbrev pub one_of : Many → Image → Answer
one_of a image = record { value = image; commits = a.commits; lsn = a.lsn }
