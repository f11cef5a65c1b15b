-- What the commits of a log left, and where a transaction committed.
use Rattle.std.specs.Prelude.{◌≡◌, ◌⊎◌, MatchBool, ℕ, ◌+◌, ◌==◌, Bool, true, false, ◌&&◌, List, [], ◌∷◌, ◌++◌, length, Option, Some, IfSome}
use Rattle.std.specs.List.{list_any}
use Rattle.als_record.specs.declared.lsn.Lsn.{Lsn}
use Rattle.als_record.specs.declared.record.Record.{Record}
use Rattle.als_record.specs.LogText.{log_text, end_of}
use Rattle.als_record.specs.Spelling.{Image}
use Rattle.als_record.specs.Transactions.{is_commit}
use Rattle.als_record.specs.Commits.{Commit, Write, commits_of}
use Rattle.als_record.specs.Validity.{IsValidLog}
use Rattle.als_commits.specs.Counting.{last_of}
use Rattle.als_view.specs.Images.{AreImagesAfter, written_by}
use Rattle.als_lookback.specs.declared.fault.Fault.{Fault}
use Rattle.als_lookback.specs.declared.fault.Fault.TheVariants.{NoCommit}
use Rattle.als_lookback.specs.declared.until.Until.{Until}
use Rattle.als_lookback.specs.declared.until.Until.TheVariants.{End}
use Rattle.als_lookback.specs.Refusals.{RefusesLook}
use Rattle.als_lookback.specs.Fronts.{IsFrontOf, IsWholeOf}

-- The images of all keys, how many commits left them, and the LSN of the last one, 0 without one.
pub record Seen : Type 0 where
  pub pages : ℕ
  pub images : List Image
  pub commits : ℕ
  pub last : ℕ

-- it is what the commits of a log leave
pub record IsSeenOf (seen : Seen) (pages : ℕ) (log : List Record) : Type 0 where
  pub pages_are : seen.pages ≡ pages
  pub images_are : AreImagesAfter seen.images pages (commits_of log)
  pub commits_are : seen.commits ≡ length (commits_of log)
  pub last_is : seen.last ≡ last_of (commits_of log)

-- the images are those that these commits leave, whatever is counted beside
pub record HasImages (seen : Seen) (pages : ℕ) (commits : List Commit) : Type 0 where
  pub pages_are : seen.pages ≡ pages
  pub images_are : AreImagesAfter seen.images pages commits

-- a commit of one write alone
abbrev pub commit_of : Write → Commit
commit_of w = record { trans = record { 0 = 0 }; lsn = record { 0 = 0 }; writes = w ∷ [] }

-- and one more commit
abbrev pub with_commit : Seen → Commit → Seen
with_commit seen c = record { pages = seen.pages; images = written_by seen.images c; commits = seen.commits + 1; last = c.lsn.0 }

-- a text, where it is known, has such a front, and this is what its commits leave
pub record LooksBack (text : Option (List ℕ)) (until : Until) (seen : Seen) : Type 0 where
  pub pages : ℕ
  pub front : List Record
  pub is_front : IsFrontOf text until pages front
  pub seen_is : IsSeenOf seen pages front

-- the record commits this transaction
abbrev pub commits : ℕ → Record → Bool
commits trans r = is_commit r.body && (r.trans.0 == trans)

-- whether a record of the log does
abbrev pub has_commit : ℕ → List Record → Bool
has_commit trans log = list_any (commits trans) log

-- A text, where it is known, begins with a valid log of which the last record commits the transaction, and no other one does; this record
-- stands at this LSN.
pub record CommitsAt (text : Option (List ℕ)) (trans lsn : ℕ) : Type 0 where
  pub pages : ℕ
  pub front : List Record
  pub last : Record
  pub rest : List ℕ
  pub valid : IsValidLog pages (front ++ last ∷ [])
  pub parts : IfSome text (λ bytes. bytes ≡ log_text pages (front ++ last ∷ []) ++ rest)
  pub first : has_commit trans front ≡ false
  pub is : commits trans last ≡ true
  pub stands : (last.lsn.0 ≡ lsn) × (end_of front ≡ lsn)

-- a text, where it is known, is that of a valid log of which no record commits the transaction
pub record HasNoCommit (text : Option (List ℕ)) (trans : ℕ) : Type 0 where
  pub pages : ℕ
  pub log : List Record
  pub whole : IsWholeOf text pages log
  pub none : has_commit trans log ≡ false

-- why no commit of a transaction is found: the log has none, or is no log up to its end
abbrev pub RefusesFind : Option (List ℕ) → ℕ → Fault → Type 0
RefusesFind text trans fault = ((fault ≡ NoCommit) × HasNoCommit text trans) ⊎ RefusesLook text End fault

-- one more record is looked at for a commit of the transaction: where it stands, if it is one; else what was found before
pub record Finds (trans same : ℕ) (before after : Option Lsn) (r : Record) : Type 0 where
  pub trans_is : same ≡ trans
  pub found_is : MatchBool (commits trans r) (after ≡ Some r.lsn) (after ≡ before)
