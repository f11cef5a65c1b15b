-- What a writer asks of a store that follows: the log's numbers, and a key.
use Rattle.std.specs.Prelude.{◌≡◌, ◌+◌, ◌*◌, Option, MatchOption, length}
use Rattle.als_record.specs.declared.key.Key.{Key}
use Rattle.als_record.specs.Spelling.{IsKey}
use Rattle.als_record.specs.LogText.{end_of}
use Rattle.als_record.specs.Transactions.{unended, greatest_trans}
use Rattle.als_record.specs.Tail.{reserve_of}
use Rattle.als_tables.specs.Counting.{last_commit}
pub use Rattle.als_validator.specs.declared.key_now.KeyNow.{KeyNow}
use Rattle.als_validator.specs.KeysNow.{TellsOfKey}
use Rattle.als_store.specs.declared.writing_now.WritingNow.{WritingNow}
use Rattle.als_store.specs.Stored.{Stored}

-- the log's numbers: the bytes of its device are the log's, its reserve's, and free
pub record TellsOfWriting (s : Stored) (told : WritingNow) : Type 0 where
  pub greatest : told.greatest.0 ≡ greatest_trans s.log
  pub unended : told.unended ≡ length (unended s.log)
  pub free : end_of s.log + reserve_of s.log + told.free ≡ 512 * s.blocks
  pub last_commit : told.last_commit.0 ≡ last_commit s.log

-- what a key of the database has now and who holds it
pub record TellsOfOwnKey (s : Stored) (key : Key) (told : KeyNow) : Type 0 where
  pub in_range : IsKey s.pages key
  pub now : TellsOfKey s.log key told

-- the same, of a key of the database alone
abbrev pub AnswersKey : Stored → Key → Option KeyNow → Type 0
AnswersKey s key told = MatchOption told (IsKey s.pages key → ⊥) (TellsOfOwnKey s key)
