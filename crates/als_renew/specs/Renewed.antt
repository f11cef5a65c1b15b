-- A log that goes on from another one.
use Rattle.std.specs.Prelude.{◌≡◌, ℕ, ◌+◌, ◌*◌, ◌≤◌, List, [], ◌++◌, Option, None, nat_lt, if◌then◌else◌, IsTrue}
use Rattle.std.specs.Io.KnownBytes.{Appends}
use Rattle.als_record.specs.declared.key.Key.{Key}
use Rattle.als_record.specs.declared.record.Record.{Record}
use Rattle.als_record.specs.Spelling.{IsKey}
use Rattle.als_record.specs.LogText.{spellings, log_text, end_of}
use Rattle.als_record.specs.Transactions.{is_in_doubt, unended, in_doubt, greatest_trans}
use Rattle.als_record.specs.Images.{image_now, kept}
use Rattle.als_record.specs.Validity.{IsValidLog}
use Rattle.als_record.specs.Commits.{commits_of, seen_after, writes_of}
use Rattle.als_lookback.specs.declared.until.Until.TheVariants.{End}
use Rattle.als_lookback.specs.Fronts.{IsFrontOf}
use Rattle.als_renew.specs.Pages.{value_in, page_records}
use Rattle.als_renew.specs.Beginning.{pages_written, beginning_of}
use Rattle.als_renew.specs.Closing.{kept_number}

-- A valid log of the same database, of which readers see at each key what they see of the old one, and a takeover keeps the same. The same
-- transactions are in doubt and nothing else is open, and each of them wrote the same. Its greatest TransID is not below the old log's, unless
-- that is the last one that there is.
pub record Begins (pages : ℕ) (old first : List Record) : Type 0 where
  pub valid : IsValidLog pages first
  pub seen : (k : Key) → IsKey pages k → seen_after (commits_of first) k ≡ seen_after (commits_of old) k
  pub kept_are : (k : Key) → IsKey pages k → kept first k ≡ kept old k
  pub doubts : in_doubt first ≡ in_doubt old
  pub open_are : unended first ≡ in_doubt old
  pub written : (t : ℕ) → IsTrue (is_in_doubt old t) → writes_of first t ≡ writes_of old t
  pub numbers : kept_number (greatest_trans old) ≤ greatest_trans first

-- the keys of the pages below one are as readers see them in the old log, and the log fits so many pages
pub record IsWrittenBelow (pages page : ℕ) (held log : List Record) : Type 0 where
  pub valid : IsValidLog pages log
  pub seen : (k : Key) → k.slot ≤ 14 → seen_after (commits_of log) k ≡ (if nat_lt k.page page then value_in held k else None)
  pub now : (k : Key) → k.slot ≤ 14 → image_now log k ≡ (if nat_lt k.page page then value_in held k else None)
  pub ended : unended log ≡ []
  pub greatest : greatest_trans log ≤ page
  pub length_is : end_of log ≤ 16 + 1046 * page

-- a page's records were appended behind such a log, and end there
pub record WritesPage (pages page : ℕ) (held log : List Record) (old new : Option (List ℕ)) (end : ℕ) : Type 0 where
  pub below : IsWrittenBelow pages (page + 1) held (log ++ page_records (value_in held) page log)
  pub ends : end ≡ end_of (log ++ page_records (value_in held) page log)
  pub written : Appends old new (spellings (page_records (value_in held) page log))

-- the text of a log of the pages below one was appended, which has this greatest TransID and ends there
pub record WritesPages (pages page : ℕ) (held : List Record) (old new : Option (List ℕ)) (greatest end : ℕ) : Type 0 where
  pub log : List Record
  pub is : log ≡ pages_written (value_in held) page
  pub below : IsWrittenBelow pages page held log
  pub ends : end ≡ end_of log
  pub greatest_is : greatest ≡ greatest_trans log
  pub written : Appends old new (log_text pages log)

-- A text, where it is known, is that of a valid log, and the text of what goes on from that log was appended, which ends there.
pub record WritesBeginning (text old new : Option (List ℕ)) (end : ℕ) : Type 0 where
  pub pages : ℕ
  pub held : List Record
  pub whole : IsFrontOf text End pages held
  pub begins : Begins pages held (beginning_of pages held)
  pub ends : end ≡ end_of (beginning_of pages held)
  pub written : Appends old new (log_text pages (beginning_of pages held))
