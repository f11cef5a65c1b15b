-- What is taken up again of three devices, and why they are not.
use Rattle.std.specs.Prelude.{◌≡◌, ◌⊎◌, ℕ, ◌+◌, ◌*◌, ◌<◌, ◌≤◌, List, length, Some, IfSome}
use Rattle.als_record.specs.declared.record.Record.{Record}
use Rattle.als_record.specs.LogText.{end_of}
use Rattle.als_record.specs.Tail.{reserve_of}
use Rattle.als_record.specs.Validity.{IsValidLog}
use Rattle.als_disk.specs.Slot.{Slot, IsSettled, KeepsReadable}
use Rattle.als_validator.specs.declared.validator.Validator.{Validator}
use Rattle.als_validator.specs.Validated.{IsValidatorOf, judges}
use Rattle.als_reopen.specs.Taken.{follows}
use Rattle.als_log.specs.Local.{Local}
use Rattle.als_ckpt.specs.Regions.{Said, IsPublished}
use Rattle.als_ckpt.specs.Control.{Controlled, IsControlState, said_of}
use Rattle.als_ckpt.specs.Reading.{taken_up}
use Rattle.als_tables.specs.declared.commit_count.CommitCount.{CommitCount}
use Rattle.als_tables.specs.Counting.{IsCountOf}
use Rattle.als_tables.specs.Fronts.{IsOfFront}
use Rattle.als_frames.specs.Frames.{Paged, without_frames}
use Rattle.als_pool.specs.Queues.{total_waiting}
use Rattle.als_pool.specs.Pooled.{Pooled}
use Rattle.als_pool.specs.Images.{QueuesOf}
use Rattle.als_pool.specs.Restart.{HasRowsFrom}
use Rattle.als_reopen.specs.declared.fault.Fault.{Fault}
use Rattle.als_reopen.specs.declared.fault.Fault.TheVariants.{Shape, Invalid, BadControl, LogFull, Device, Memory}
use Rattle.als_reopen.specs.Node.{Node, HoldsLog, position_in, rows_in}
use Rattle.als_reopen.specs.Refusing.{MeetsFirst}

-- ---- devices

-- each block has one content, which is synced
abbrev pub AreSettled : (ℕ → Slot) → Type 0
AreSettled slots = (k : ℕ) → IsSettled (slots k)

-- after a sync each block keeps one content, one that a read might have given
abbrev pub IsSync : (ℕ → Slot) → (ℕ → Slot) → Type 0
IsSync old new = (k : ℕ) → KeepsReadable (old k) (new k)

-- One outcome of a sync of three devices.
pub record Synced (log control pages : ℕ → Slot) : Type 0 where
  pub log_now : ℕ → Slot
  pub control_now : ℕ → Slot
  pub pages_now : ℕ → Slot
  pub log_kept : IsSync log log_now
  pub control_kept : IsSync control control_now
  pub pages_kept : IsSync pages pages_now

-- a block is as it was, or it keeps one content that a read might have given
abbrev pub IsLeft : Slot → Slot → Type 0
IsLeft old new = (new ≡ old) ⊎ KeepsReadable old new

-- so it is with the blocks below a number
abbrev pub AreLeft : ℕ → (ℕ → Slot) → (ℕ → Slot) → Type 0
AreLeft count old new = (k : ℕ) → k < count → IsLeft (old k) (new k)

-- a device was called to sync once at most
abbrev pub IsOnceAtMost : ℕ → ℕ → Type 0
IsOnceAtMost before now = (now ≡ before) ⊎ (now ≡ before + 1)

-- ---- what is taken up, over any contents

-- a log of which all records are written and synced
abbrev pub all_synced : ℕ → List Record → ℕ → ℕ → ℕ → ℕ → Local
all_synced pages log blocks failures attempts room = record {
  pages = pages;
  log = log;
  written = end_of log;
  synced = end_of log;
  blocks = blocks;
  failures = failures;
  attempts = attempts;
  room = room;
}

-- what the synced blocks of a control device say
abbrev pub said_now : Controlled → Said
said_now control = said_of control control.synced

-- a control block that was read, over a log device of so many blocks
pub record IsControlRead (pages log_blocks blocks failures attempts : ℕ) (control : Controlled) : Type 0 where
  pub is : control ≡ taken_up pages (512 * log_blocks) (said_now control) blocks failures attempts
  pub state : IsControlState (512 * log_blocks) control.synced
  pub published : IsPublished pages control.synced.published control.synced.position.0 (said_now control).checkpoint

-- The pages, of which none has a frame, over a device with this in the block of each page, or with what a sync left there.
pub record AreUnread (pages most : ℕ) (old : ℕ → Slot) (blocks failures attempts : ℕ) (frames : Paged) : Type 0 where
  pub slots : ℕ → Slot
  pub left : (page : ℕ) → KeepsReadable (old page) (slots page)
  pub is : frames ≡ without_frames pages most slots blocks failures attempts

-- The log is valid and ends at the mark; it fits the device with its reserve; and the checkpoint is that of a
-- front of it. The validator and the counts are those of the log, and what waits for each page are its changes from where a restart looks.
-- The validator judges while the log follows its source. No lease number is used.
pub record IsReopened (pages blocks : ℕ) (said : Said) (log : List Record) (validator : Validator) (count : CommitCount) (pool : Pooled) : Type 0 where
  pub valid : IsValidLog pages log
  pub ends : end_of log ≡ said.state.mark.0
  pub fits : end_of log + reserve_of log ≤ 512 * blocks
  pub front : IfSome said.checkpoint (IsOfFront log)
  pub judged : IsValidatorOf pages validator log
  pub judging : judges validator ≡ follows said.state.phase
  pub counted : IsCountOf count log
  pub pages_are : length pool.waits ≡ pages
  pub queues : QueuesOf log pool
  pub rows : HasRowsFrom (position_in said) (rows_in said) pool
  pub few : total_waiting pool.waits ≤ length log
  pub numbered : pool.next ≡ Some 1

-- ---- why not

-- Devices hold no log, and this fault is the first that is met in reading them: control block, checkpoint, header, records, room.
pub record HoldsNone (fault : Fault) (pages blocks : ℕ) (log_slots control_slots : ℕ → Slot) : Type 0 where
  pub none : (n : Node) → HoldsLog pages blocks log_slots control_slots n → ⊥
  pub first : MeetsFirst fault pages blocks log_slots control_slots

-- By the fault: a device has failed; or an allocation failed; or the devices, as they are handed back, hold no log, for this fault.
abbrev pub RefusesOpen : Fault → ℕ → ℕ → (ℕ → Slot) → (ℕ → Slot) → ℕ → ℕ → Type 0
RefusesOpen Device pages blocks log_slots control_slots before now = before < now
RefusesOpen Memory pages blocks log_slots control_slots before now = now ≡ before
RefusesOpen (Shape shape) pages blocks log_slots control_slots before now = (now ≡ before) × HoldsNone (Shape shape) pages blocks log_slots control_slots
RefusesOpen (Invalid cause) pages blocks log_slots control_slots before now = (now ≡ before) × HoldsNone (Invalid cause) pages blocks log_slots control_slots
RefusesOpen BadControl pages blocks log_slots control_slots before now = (now ≡ before) × HoldsNone BadControl pages blocks log_slots control_slots
RefusesOpen LogFull pages blocks log_slots control_slots before now = (now ≡ before) × HoldsNone LogFull pages blocks log_slots control_slots

-- why devices that hold a log are not taken up: a device has failed, or an allocation failed
abbrev pub IsBare : Fault → Type 0
IsBare fault = (fault ≡ Device) ⊎ (fault ≡ Memory)
