-- Records that go from a receiver to a store.
use Rattle.std.specs.Prelude.{◌≡◌, ℕ, ◌<◌, ◌≤◌, List, [], ◌∷◌, ◌++◌, length, Option, Some, None, Ok}
use Rattle.als_record.specs.declared.record.Record.{Record}
use Rattle.als_record.specs.Spelling.{spelling, record_len}
use Rattle.als_record.specs.Reading.{read_record}
use Rattle.als_record.specs.LogText.{spellings, end_of}
use Rattle.als_record.specs.Validity.{first_bad}
use Rattle.als_receiver.specs.Reception.{Reception}
use Rattle.als_store.specs.Stored.{Stored, acknowledged, newest, IsTooLong}
use Rattle.als_engine.specs.declared.fault.Fault.{Fault}
use Rattle.als_engine.specs.declared.fault.Fault.TheVariants.{Memory}
use Rattle.als_engine.specs.Feeds.{IsCause, grown, AllFit}

-- the receiver goes on where the log ends, for the same database, and refuses nothing
pub record Meets (held : Stored) (receiver : Reception) : Type 0 where
  pub wanted : receiver.wanted ≡ end_of held.log
  pub pages : receiver.pages ≡ held.pages
  pub takes : receiver.refusal ≡ None

-- and what it keeps is less than a record
pub record Rests (held : Stored) (receiver : Reception) : Type 0 where
  pub meets : Meets held receiver
  pub waits : read_record held.pages (end_of held.log) receiver.kept ≡ Ok None
  pub short : length receiver.kept < 54560

-- and the last mark written is not below the acknowledged one, and want of memory is not kept: so
-- it is between two events
pub record IsReady (held : Stored) (receiver : Reception) (refused : Option Fault) : Type 0 where
  pub rests : Rests held receiver
  pub marks : acknowledged held ≤ (newest held).mark.0
  pub no_want : refused ≡ Some Memory → ⊥

-- a record that may follow the log, and for which there is room, is held
abbrev pub HoldsRecord : Stored → Record → Stored → Type 0
HoldsRecord old logged new =
    (first_bad old.log logged ≡ None) × (IsTooLong old logged → ⊥) × (new ≡ grown old (logged ∷ []))

-- the next record goes over
pub record TakesOne (old : Stored) (before : Reception) (new : Stored)
    (receiver : Reception) : Type 0 where
  pub logged : Record
  pub reading : read_record old.pages (end_of old.log) before.kept
      ≡ Ok (Some (logged, record_len logged))
  pub whole : before.kept ≡ spelling logged ++ receiver.kept
  pub good : first_bad old.log logged ≡ None
  pub fits : IsTooLong old logged → ⊥
  pub after : new ≡ grown old (logged ∷ [])
  pub meets : Meets new receiver

-- of these bytes the held log goes on with the records in front, and the receiver keeps the rest
pub record TakesAll (old : Stored) (bytes : List ℕ) (new : Stored)
    (receiver : Reception) : Type 0 where
  pub records : List Record
  pub whole : bytes ≡ spellings records ++ receiver.kept
  pub fit : AllFit old records
  pub after : new ≡ grown old records
  pub rests : Rests new receiver

-- of these bytes the held log goes on with the records in front, and for this cause not with the
-- rest
pub record TakesFront (old : Stored) (bytes : List ℕ) (new : Stored) (fault : Fault) : Type 0 where
  pub records : List Record
  pub rest : List ℕ
  pub whole : bytes ≡ spellings records ++ rest
  pub fit : AllFit old records
  pub after : new ≡ grown old records
  pub cause : IsCause (grown old records) rest fault
