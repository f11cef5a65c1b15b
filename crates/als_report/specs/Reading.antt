-- What a read of keys gives.
use Rattle.std.specs.Prelude.{◌≡◌, ℕ, ◌<◌, ◌≤◌, ◌&&◌, Bool, true, false, List, length, fold, Option, Some, None, option_map}
use Rattle.als_record.specs.declared.key.Key.{Key}
use Rattle.als_record.specs.declared.lsn.Lsn.{Lsn}
use Rattle.als_record.specs.Commits.{Commit}
use Rattle.als_commits.specs.Counting.{last_of}
use Rattle.als_view.specs.Answers.{IsAnswer}
use Rattle.als_view.specs.Many.{is_key, IsAnswerOfAll}
use Rattle.als_view.specs.declared.answer.Answer.{Answer}
use Rattle.als_view.specs.declared.many.Many.{Many}
use Rattle.als_report.specs.declared.unread.Unread.{Unread}
use Rattle.als_report.specs.declared.unread.Unread.TheVariants.{Warming, Stopped, Older, NoSuchKey, Memory}

-- the LSN of the last commit of a list
abbrev pub last_in : Option (List Commit) → Option ℕ
last_in known = option_map last_of known

-- how many commits a list has
abbrev pub count_in : Option (List Commit) → Option ℕ
count_in known = option_map length known

-- a database with so many pages has each of these keys
abbrev pub has_all : ℕ → List Key → Bool
has_all pages keys = fold (λ (has : Bool) (key : Key). has && is_key pages key) true keys

-- the answer is the reader's, of a key of the database, and not older than what was asked for
abbrev pub IsRead : ℕ → Key → Option (List Commit) → Lsn → Answer → Type 0
IsRead pages key known at_least a = IsAnswer pages key known a × (at_least.0 ≤ a.lsn.0) × (is_key pages key ≡ true)

-- and that of many keys: all of them of the reader's one list
abbrev pub AreRead : ℕ → List Key → Option (List Commit) → Lsn → Many → Type 0
AreRead pages keys known at_least a = IsAnswerOfAll pages keys known a × (at_least.0 ≤ a.lsn.0) × (has_all pages keys ≡ true)

-- a list that is not older than what was asked for
abbrev pub IsRecent : Option (List Commit) → Lsn → Type 0
IsRecent now at_least = (lsn : ℕ) × (last_in now ≡ Some lsn) × (at_least.0 ≤ lsn)

-- Why there is none: the reader, which knew of one list and now knows of another, has none, or an older one; or the database has not all
-- of the keys, which a reader with a list that is not older says alone.
abbrev pub IsUnread : Bool → Option (List Commit) → Option (List Commit) → Lsn → Unread → Type 0
IsUnread has known now at_least Warming = known ≡ None
IsUnread has known now at_least Stopped = now ≡ known
IsUnread has known now at_least (Older lsn) = (last_in now ≡ Some lsn.0) × (lsn.0 < at_least.0)
IsUnread has known now at_least NoSuchKey = (has ≡ false) × IsRecent now at_least
IsUnread has known now at_least Memory = now ≡ known
