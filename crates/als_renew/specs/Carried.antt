-- Transactions in doubt that a new log carries on from an old one.
use Rattle.std.specs.Prelude.{◌≡◌, ◌⊎◌, ℕ, ◌+◌, ◌<◌, ◌≤◌, ◌^◌, false, Bool, List, [], ◌∷◌, ◌++◌, Option, length, map, slice_index_or, IsTrue}
use Rattle.std.specs.List.{list_any, AllByRecursion}
use Rattle.std.specs.Io.KnownBytes.{Appends}
use Rattle.als_record.specs.declared.key.Key.{Key}
use Rattle.als_record.specs.declared.record.Record.{Record}
use Rattle.als_record.specs.declared.trans_id.TransId.{TransId}
use Rattle.als_record.specs.Spelling.{IsKey, IsImage}
use Rattle.als_record.specs.LogText.{spellings, log_text, end_of}
use Rattle.als_record.specs.Transactions.{unended, greatest_trans}
use Rattle.als_record.specs.Images.{same_key, image_now}
use Rattle.als_record.specs.Commits.{Commit, Write, seen_after}
use Rattle.als_writing.specs.Writing.{prepared, is_free}
use Rattle.als_lookback.specs.Doubts.{Doubt}
use Rattle.als_lookback.specs.Seen.{Seen, HasImages}

abbrev pub numbers : List Doubt → List ℕ
numbers ds = map (λ (d : Doubt). d.trans) ds

-- their records behind a log: each one prepares once more, under its own number
unfoldable pub carried : List Record → List Doubt → List Record
carried log [] = []
carried log (d ∷ rest) = prepared log d.trans d.writes ++ carried (log ++ prepared log d.trans d.writes) rest

-- whether a key is written by any of these
abbrev pub is_written : List Write → Key → Bool
is_written writes k = list_any (λ w. same_key w.key k) writes

-- none of these writes a key of those
abbrev pub Misses : List Write → List Write → Type 0
Misses those these = AllByRecursion (λ w. is_written those w.key ≡ false) these

-- Doubts of one log: their numbers rise from above a number and fit, and so do keys and images; no two of them write one key.
abbrev pub AreDoubts : ℕ → ℕ → List Doubt → Type 0
AreDoubts pages least [] = Unit {0}
AreDoubts pages least (d ∷ rest) = (least < d.trans) × (d.trans < 2 ^ 32)
    × AllByRecursion (λ (w : Write). IsKey pages w.key) d.writes × AllByRecursion (λ (w : Write). IsImage w.after) d.writes
    × AllByRecursion (λ (e : Doubt). Misses d.writes e.writes) rest × AreDoubts pages d.trans rest

-- no other open transaction of a log holds a key of theirs
abbrev pub AreFree : List Record → List Doubt → Type 0
AreFree log [] = Unit {0}
AreFree log (d ∷ rest) = AllByRecursion (λ (w : Write). IsTrue (is_free log d.trans w.key)) d.writes × AreFree log rest

-- They may be carried behind a log: their numbers are above all of it, their keys are free, and there is place for them.
pub record MayCarry (pages : ℕ) (log : List Record) (ds : List Doubt) : Type 0 where
  pub are : AreDoubts pages (greatest_trans log) ds
  pub few : length (unended log) + length ds ≤ 256
  pub free : AreFree log ds

-- ---- how they are written

-- the images are what the keys have now, by open transactions too
pub record HasNow (seen : Seen) (pages : ℕ) (log : List Record) : Type 0 where
  pub commits : List Commit
  pub images : HasImages seen pages commits
  pub now : (k : Key) → IsKey pages k → seen_after commits k ≡ image_now log k

-- these bytes are a doubt's records behind the log and end there, and the images are what the keys have behind them
pub record SpellsDoubt (pages : ℕ) (d : Doubt) (log : List Record) (piece : List ℕ) (end : ℕ) (now : Seen) : Type 0 where
  pub spelled : piece ≡ spellings (prepared log d.trans d.writes)
  pub ends : end ≡ end_of (log ++ prepared log d.trans d.writes)
  pub now_is : HasNow now pages (log ++ prepared log d.trans d.writes)

-- the same, appended
pub record WritesDoubt (pages : ℕ) (d : Doubt) (log : List Record) (old new : Option (List ℕ)) (end : ℕ) (now : Seen) : Type 0 where
  pub ends : end ≡ end_of (log ++ prepared log d.trans d.writes)
  pub now_is : HasNow now pages (log ++ prepared log d.trans d.writes)
  pub written : Appends old new (spellings (prepared log d.trans d.writes))

-- The text of a log with these doubts was appended, which ends there and has this greatest TransID.
pub record WritesDoubts (pages : ℕ) (log : List Record) (ds : List Doubt) (old new : Option (List ℕ)) (greatest end : ℕ) : Type 0 where
  pub ends : end ≡ end_of (log ++ carried log ds)
  pub greatest_is : greatest ≡ greatest_trans (log ++ carried log ds)
  pub written : Appends old new (log_text pages (log ++ carried log ds))

-- ---- which are not

-- all of these are above the page count, and fewer than 256
pub record AreCarriable (pages : ℕ) (ds : List Doubt) : Type 0 where
  pub above : AllByRecursion (λ (d : Doubt). pages < d.trans) ds
  pub few : length ds < 256

-- one of these is not above the page count, or they are 256 or more
pub record IsUncarriable (pages : ℕ) (ds : List Doubt) (trans : TransId) : Type 0 where
  pub i : ℕ
  pub d : Doubt
  pub within : i < length ds
  pub at : d ≡ slice_index_or ds i d
  pub is : trans.0 ≡ d.trans
  pub cause : (trans.0 ≤ pages) ⊎ (256 ≤ length ds)
