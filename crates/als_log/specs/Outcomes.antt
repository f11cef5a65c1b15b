-- When a call is refused, and what it leaves then.
use Rattle.std.specs.Prelude.{◌≡◌, ℕ, ◌<◌, ◌+◌, ◌*◌}
use Rattle.als_record.specs.LogText.{end_of}
use Rattle.als_log.specs.declared.fault.Fault.{Fault}
use Rattle.als_log.specs.declared.fault.Fault.TheVariants.{NothingToDo, LogFull, Device, Memory}
use Rattle.als_log.specs.Local.{Local, HasRoomFor}
use Rattle.als_log.specs.Reading.{HasRecord, HasRowsAt}

-- a read of the device has failed, and nothing else has changed
pub record ReadFails (old new : Local) : Type 0 where
  pub failed : old.failures < new.failures
  pub same : new ≡ record old { failures = new.failures }

-- the one write or sync that was made of the device has failed, and nothing else has changed
pub record AttemptFails (old new : Local) : Type 0 where
  pub failed : old.failures < new.failures
  pub same : new ≡ record old { failures = new.failures; attempts = old.attempts + 1 }

-- a record was not appended: it does not fit, or there was no memory for it
abbrev pub RefusesRecord : Fault → Local → ℕ → ℕ → Type 0
RefusesRecord LogFull l len reserve_after = 512 * l.blocks < end_of l.log + len + reserve_after
RefusesRecord Memory l len reserve_after = HasRoomFor l len reserve_after × (l.room < len)
RefusesRecord NothingToDo l len reserve_after = ⊥
RefusesRecord Device l len reserve_after = ⊥

-- no block was written: there was none to write, or the device failed
abbrev pub RefusesBlock : Fault → Local → Local → Type 0
RefusesBlock NothingToDo old new = (old.written ≡ end_of old.log) × (new ≡ old)
RefusesBlock Device old new = (old.written < end_of old.log) × AttemptFails old new
RefusesBlock LogFull old new = ⊥
RefusesBlock Memory old new = ⊥

-- the device was not synced: it failed
abbrev pub RefusesSync : Fault → Local → Local → Type 0
RefusesSync Device old new = AttemptFails old new
RefusesSync NothingToDo old new = ⊥
RefusesSync LogFull old new = ⊥
RefusesSync Memory old new = ⊥

-- no record could be read at an offset: the device failed, or there was no memory for the rows of an end_chkpt there
abbrev pub RefusesReading : ℕ → Fault → Local → Local → Type 0
RefusesReading at Device old new = ReadFails old new
RefusesReading at Memory old new = HasRowsAt old.log at × (new ≡ old)
RefusesReading at NothingToDo old new = ⊥
RefusesReading at LogFull old new = ⊥

-- the record at an offset could not be looked for: the device failed, or there was no memory, which is not so of a record but an end_chkpt
abbrev pub RefusesLook : ℕ → Fault → Local → Local → Type 0
RefusesLook at Device old new = ReadFails old new
RefusesLook at Memory old new = (HasRecord old.log at → HasRowsAt old.log at) × (new ≡ old)
RefusesLook at NothingToDo old new = ⊥
RefusesLook at LogFull old new = ⊥

-- a log was not taken up again from a device: the device has failed, or there was no memory
abbrev pub FailsToOpen : Fault → ℕ → ℕ → Type 0
FailsToOpen Device before now = before < now
FailsToOpen Memory before now = now ≡ before
FailsToOpen NothingToDo before now = ⊥
FailsToOpen LogFull before now = ⊥
