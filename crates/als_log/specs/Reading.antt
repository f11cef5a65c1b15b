-- Records read back, and where the bytes for it come from.
use Rattle.std.specs.Prelude.{◌≡◌, ℕ, ◌<◌, ◌≤◌, ◌*◌, ◌/◌, ◌==◌, List, length, drop, Option, None, Result, Ok, Err, IsSomeAnd, IsTrue, is_some, find}
use Rattle.als_record.specs.declared.record.Record.{Record}
use Rattle.als_record.specs.LogText.{log_text, end_of, IsLog}
use Rattle.als_record.specs.declared.fault.Fault.{Fault as RecordFault}
use Rattle.als_record.specs.declared.fault.Fault.TheVariants as refused
use Rattle.als_record.specs.Reading.{HasRows}
use Rattle.als_disk.specs.Slot.{Slot}
use Rattle.als_log.specs.declared.fault.Fault.{Fault}
use Rattle.als_log.specs.declared.fault.Fault.TheVariants.{NothingToDo, LogFull, Device, Memory}
use Rattle.als_log.specs.Near.{IsNear}
use Rattle.als_log.specs.Texts.{AllHaveText}
use Rattle.als_log.specs.declared.near.Near.{Near}

-- the record of a log that stands at an offset
abbrev pub record_at : List Record → ℕ → Option Record
record_at log at = find (λ r. r.lsn.0 == at) log

-- a record of the log stands at an offset
abbrev pub HasRecord : List Record → ℕ → Type 0
HasRecord log at = IsTrue (is_some (record_at log at))

-- an end_chkpt stands at an offset of a log: the one record that takes memory to be read, for its rows
abbrev pub HasRowsAt : List Record → ℕ → Type 0
HasRowsAt log at = IsSomeAnd (record_at log at) (λ r. HasRows r.body)

-- The bytes of a text: below a base whatever a read of the device gives has them, and memory has the others.
pub record IsSource (slots : ℕ → Slot) (bytes text : List ℕ) (base : ℕ) : Type 0 where
  pub below : AllHaveText (λ b. (slots b).readable) text base
  pub held : bytes ≡ drop base text
  pub reach : base ≤ length text

-- the text of a log can be read
pub record IsReadable (pages : ℕ) (log : List Record) (slots : ℕ → Slot) (blocks : ℕ) (bytes : List ℕ) (base : ℕ) (last : Near) : Type 0 where
  pub is_log : IsLog pages log
  pub source : IsSource slots bytes (log_text pages log) base
  pub whole : 512 * (base / 512) ≡ base
  pub fits : end_of log ≤ 512 * blocks
  pub few : blocks ≤ 4194304
  pub near : IsNear last (log_text pages log) base

-- the record at an offset could not be read: the device has failed, or there was no memory for the rows of an end_chkpt there
abbrev pub FailsToRead : List Record → ℕ → Fault → ℕ → ℕ → Type 0
FailsToRead log at Device before now = before < now
FailsToRead log at Memory before now = HasRowsAt log at × (now ≡ before)
FailsToRead log at NothingToDo before now = ⊥
FailsToRead log at LogFull before now = ⊥

-- the record at an offset could not be looked for: the device has failed, or there was no memory, which is not so of a record but an end_chkpt
abbrev pub FailsToLook : List Record → ℕ → Fault → ℕ → ℕ → Type 0
FailsToLook log at Device before now = before < now
FailsToLook log at Memory before now = (HasRecord log at → HasRowsAt log at) × (now ≡ before)
FailsToLook log at NothingToDo before now = ⊥
FailsToLook log at LogFull before now = ⊥

-- what is answered where bytes are no record: none, unless it is memory that was wanted
abbrev pub without_record : RecordFault → Result (Option Record) Fault
without_record refused.Memory = Err Memory
without_record _ = Ok None
