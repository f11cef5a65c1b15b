-- Why devices hold no log: the first that is met in reading them, and nothing that is read before it.
use Rattle.std.specs.Prelude.{◌≡◌, ◌≢◌, ◌⊎◌, ℕ, ◌+◌, ◌*◌, ◌<◌, ◌≤◌, List, ◌++◌, take, drop, Option, Some, None, Result, Ok, Err, IfSome, IsSomeAnd}
use Rattle.als_record.specs.declared.fault.Fault.{Fault as ShapeFault}
use Rattle.als_record.specs.declared.fault.Fault.TheVariants as shape
use Rattle.als_record.specs.declared.cause.Cause.{Cause}
use Rattle.als_record.specs.declared.record.Record.{Record}
use Rattle.als_record.specs.Spelling.{record_len}
use Rattle.als_record.specs.Reading.{read_record}
use Rattle.als_record.specs.HeaderReading.{read_header}
use Rattle.als_record.specs.LogText.{log_text, end_of}
use Rattle.als_record.specs.Tail.{reserve_of}
use Rattle.als_record.specs.Validity.{IsValidLog, first_bad}
use Rattle.als_disk.specs.Slot.{Slot}
use Rattle.als_scan.specs.Scanned.{Scanned}
use Rattle.als_scan.specs.Texts.{text_of}
use Rattle.als_ckpt_codec.specs.declared.checkpoint.Checkpoint.{Checkpoint}
use Rattle.als_ckpt.specs.Regions.{Said}
use Rattle.als_ckpt.specs.Holding.{HoldsControl}
use Rattle.als_tables.specs.Fronts.{IsOfFront}
use Rattle.als_reopen.specs.declared.fault.Fault.{Fault}
use Rattle.als_reopen.specs.declared.fault.Fault.TheVariants.{Shape, Invalid, BadControl, LogFull, Device, Memory}

-- ---- the checkpoint, on the way

-- where the records reach the checkpoint's position, it is that of a front of them
abbrev pub IsChecked : Option Checkpoint → List Record → Type 0
IsChecked checkpoint front = IfSome checkpoint (λ c. c.numbers.position.0 ≤ end_of front → IsOfFront front c)

-- the records reach the checkpoint's position, and it is that of no front of them
abbrev pub IsUnmet : Option Checkpoint → List Record → Type 0
IsUnmet checkpoint front = IsSomeAnd checkpoint (λ c. (c.numbers.position.0 ≤ end_of front) × (IsOfFront front c → ⊥))

-- ---- the text of the log

-- a text begins with the header of a database of so many pages and with these records, which make a valid log
pub record BeginsWith (pages : ℕ) (text : List ℕ) (front : List Record) : Type 0 where
  pub valid : IsValidLog pages front
  pub rest : List ℕ
  pub parts : text ≡ log_text pages front ++ rest

-- what stands behind these records, read as the next one
abbrev pub reading_behind : ℕ → List ℕ → List Record → Result (Option (Record × ℕ)) ShapeFault
reading_behind pages text front = read_record pages (end_of front) (drop (end_of front) text)

-- a text begins with no header of a database of so many pages
abbrev pub HasNoHeader : ℕ → List ℕ → Type 0
HasNoHeader pages text = read_header (take 16 text) ≢ Ok (Some (record { pages = pages }))

-- Behind a valid log that the checkpoint agrees with stand bytes that are no record.
pub record HasNoRecord (pages : ℕ) (text : List ℕ) (checkpoint : Option Checkpoint) (fault : ShapeFault) : Type 0 where
  pub front : List Record
  pub begins : BeginsWith pages text front
  pub checked : IsChecked checkpoint front
  pub reading : reading_behind pages text front ≡ Err fault

-- Behind such a log stands a record that may not follow it.
pub record HasBadRecord (pages : ℕ) (text : List ℕ) (checkpoint : Option Checkpoint) (cause : Cause) : Type 0 where
  pub front : List Record
  pub begins : BeginsWith pages text front
  pub checked : IsChecked checkpoint front
  pub bad : Record
  pub reading : reading_behind pages text front ≡ Ok (Some (bad, record_len bad))
  pub cause_is : first_bad front bad ≡ Some cause

-- Behind such a log the mark stands within a record.
pub record IsCutShort (pages mark : ℕ) (text : List ℕ) (checkpoint : Option Checkpoint) : Type 0 where
  pub front : List Record
  pub begins : BeginsWith pages text front
  pub checked : IsChecked checkpoint front
  pub reading : reading_behind pages text front ≡ Ok None
  pub some : end_of front < mark

-- A valid log reaches the checkpoint's position, and the checkpoint is that of no front of it.
pub record HasOtherCheckpoint (pages : ℕ) (text : List ℕ) (checkpoint : Option Checkpoint) : Type 0 where
  pub front : List Record
  pub begins : BeginsWith pages text front
  pub unmet : IsUnmet checkpoint front

-- The text is that of a valid log that the checkpoint agrees with, and with its reserve it exceeds the device.
pub record IsTooLong (pages blocks mark : ℕ) (text : List ℕ) (checkpoint : Option Checkpoint) : Type 0 where
  pub log : List Record
  pub text_is : text ≡ log_text pages log
  pub valid : IsValidLog pages log
  pub ends : end_of log ≡ mark
  pub of_front : IfSome checkpoint (IsOfFront log)
  pub long : 512 * blocks < end_of log + reserve_of log

-- why the text below a mark is refused, on a device of so many blocks
abbrev pub RefusesText : Fault → ℕ → ℕ → ℕ → List ℕ → Option Checkpoint → Type 0
RefusesText (Shape fault) pages blocks mark text checkpoint = ((fault ≡ shape.BadHeader) × HasNoHeader pages text) ⊎ HasNoRecord pages text checkpoint fault
RefusesText (Invalid cause) pages blocks mark text checkpoint = HasBadRecord pages text checkpoint cause
RefusesText BadControl pages blocks mark text checkpoint = IsCutShort pages mark text checkpoint ⊎ HasOtherCheckpoint pages text checkpoint
RefusesText LogFull pages blocks mark text checkpoint = IsTooLong pages blocks mark text checkpoint
RefusesText Device pages blocks mark text checkpoint = Unit {0}
RefusesText Memory pages blocks mark text checkpoint = Unit {0}

-- the same of a text that is being read
abbrev pub RefusesScan : Fault → Scanned → Option Checkpoint → Type 0
RefusesScan fault s checkpoint = RefusesText fault s.pages s.blocks s.mark s.text checkpoint

-- ---- the devices

-- the control device says a control state with its checkpoint, and the text of the log below the mark is refused
pub record RefusesLogText (fault : Fault) (pages blocks : ℕ) (log_slots control_slots : ℕ → Slot) : Type 0 where
  pub said : Said
  pub says : HoldsControl pages (512 * blocks) control_slots said
  pub refuses : RefusesText fault pages blocks said.state.mark.0 (text_of log_slots said.state.mark.0) said.checkpoint

-- BadControl: the control device says nothing, or it is that of the text. Else the control device says what is to be read, and the fault
-- is the first that is met in the text. Nothing is said of a failed device and of want of memory.
abbrev pub MeetsFirst : Fault → ℕ → ℕ → (ℕ → Slot) → (ℕ → Slot) → Type 0
MeetsFirst BadControl pages blocks log_slots control_slots
    = ((said : Said) → HoldsControl pages (512 * blocks) control_slots said → ⊥) ⊎ RefusesLogText BadControl pages blocks log_slots control_slots
MeetsFirst (Shape fault) pages blocks log_slots control_slots = RefusesLogText (Shape fault) pages blocks log_slots control_slots
MeetsFirst (Invalid cause) pages blocks log_slots control_slots = RefusesLogText (Invalid cause) pages blocks log_slots control_slots
MeetsFirst LogFull pages blocks log_slots control_slots = RefusesLogText LogFull pages blocks log_slots control_slots
MeetsFirst Device pages blocks log_slots control_slots = Unit {0}
MeetsFirst Memory pages blocks log_slots control_slots = Unit {0}
