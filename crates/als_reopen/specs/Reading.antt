-- The log of stopped devices, on the way from its first record to its last.
use Rattle.std.specs.Prelude.{◌≡◌, ℕ, ◌+◌, ◌*◌, ◌<◌, ◌≤◌, Bool, true, false, List, [], ◌∷◌, ◌++◌, length, Option, Some, IfSome}
use Rattle.als_record.specs.declared.record.Record.{Record}
use Rattle.als_record.specs.LogText.{log_text, end_of}
use Rattle.als_record.specs.Tail.{reserve_of}
use Rattle.als_record.specs.Validity.{IsValidLog}
use Rattle.als_ckpt_codec.specs.declared.checkpoint.Checkpoint.{Checkpoint}
use Rattle.als_disk.specs.Slot.{Slot}
use Rattle.als_frames.specs.Frames.{Paged, slot_of}
use Rattle.als_scan.specs.Texts as scan
use Rattle.als_scan.specs.Scanned.{Scanned, IsScanned}
use Rattle.als_tables.specs.declared.commit_count.CommitCount.{CommitCount}
use Rattle.als_tables.specs.Counting.{IsCountOf}
use Rattle.als_tables.specs.Fronts.{IsOfFront}
use Rattle.als_pool.specs.Queues.{total_waiting}
use Rattle.als_pool.specs.Pooled.{Pooled}
use Rattle.als_pool.specs.Images.{QueuesOf}
use Rattle.als_pool.specs.Restart.{HasRowsFrom, HoldsImagesOf}
use Rattle.als_reopen.specs.declared.fault.Fault.{Fault}
use Rattle.als_reopen.specs.declared.fault.Fault.TheVariants.{Shape, Invalid, BadControl, LogFull, Device, Memory}
use Rattle.als_reopen.specs.Node.{position_of, rows_of}

-- The records handed out are counted, and their changes wait, each from where a restart with this checkpoint looks for those of its page.
-- No lease number is used.
pub record IsReading (checkpoint : Option Checkpoint) (s : Scanned) (pool : Pooled) (count : CommitCount) : Type 0 where
  pub facts : IsScanned s
  pub paged : pool.frames.pages ≡ s.pages
  pub queues : QueuesOf s.log pool
  pub rows : HasRowsFrom (position_of checkpoint) (rows_of checkpoint) pool
  pub few : total_waiting pool.waits ≤ length s.log
  pub numbered : pool.next ≡ Some 1
  pub counted : IsCountOf count s.log

-- the checkpoint's position was met, and it is that of a front of these records; or they do not end past its position
abbrev pub IsMet : Bool → List Record → Option Checkpoint → Type 0
IsMet true log checkpoint = IfSome checkpoint (IsOfFront log)
IsMet false log checkpoint = IfSome checkpoint (λ c. end_of log ≤ c.numbers.position.0)

-- that, but where it was not met they end in front of its position
abbrev pub IsMetBefore : Bool → List Record → Option Checkpoint → Type 0
IsMetBefore true log checkpoint = IfSome checkpoint (IsOfFront log)
IsMetBefore false log checkpoint = IfSome checkpoint (λ c. end_of log < c.numbers.position.0)

-- nothing but the records handed out and the device's failures has changed of a scan
abbrev pub ScansOn : Scanned → Scanned → Type 0
ScansOn old new = new ≡ record old { log = new.log; failures = new.failures }

-- what blocks hold for the pages of a log stays what they hold
abbrev pub KeepsImages : Pooled → Pooled → Type 0
KeepsImages old new = (log : List Record) (below : ℕ) → HoldsImagesOf log below old → HoldsImagesOf log below new

-- a log with one record more
pub record IsOneMore (old new : List Record) : Type 0 where
  pub r : Record
  pub is : new ≡ old ++ r ∷ []

-- a log is a front of another
pub record IsFrontOf (front log : List Record) : Type 0 where
  pub rest : List Record
  pub parts : log ≡ front ++ rest

-- the count of failures rises where the device has failed, and only there; the log's room is not looked at
abbrev pub CountsDevice : Fault → ℕ → ℕ → Type 0
CountsDevice Device before now = before < now
CountsDevice Memory before now = now ≡ before
CountsDevice BadControl before now = now ≡ before
CountsDevice (Shape shape) before now = now ≡ before
CountsDevice (Invalid cause) before now = now ≡ before
CountsDevice LogFull before now = ⊥

-- A text is that of a valid log which ends at the mark and fits the device with its reserve, and of a front of which the checkpoint is.
pub record IsLogOn (pages blocks mark : ℕ) (text : List ℕ) (checkpoint : Option Checkpoint) (log : List Record) : Type 0 where
  pub text_is : text ≡ log_text pages log
  pub valid : IsValidLog pages log
  pub ends : end_of log ≡ mark
  pub fits : end_of log + reserve_of log ≤ 512 * blocks
  pub front : IfSome checkpoint (IsOfFront log)

-- a position at which the front of a log below a mark may end
abbrev pub IsBelowMark : ℕ → Checkpoint → Type 0
IsBelowMark mark c = (16 ≤ c.numbers.position.0) × (c.numbers.position.0 ≤ mark)

-- the count of failures rises where the log device has failed, and only there
abbrev pub CountsLog : Fault → ℕ → ℕ → Type 0
CountsLog Device before now = before < now
CountsLog Memory before now = now ≡ before
CountsLog BadControl before now = now ≡ before
CountsLog (Shape shape) before now = now ≡ before
CountsLog (Invalid cause) before now = now ≡ before
CountsLog LogFull before now = now ≡ before

-- the device of a scan, as it was before the first read
pub record IsScanLeft (s : Scanned) (slots : ℕ → Slot) (blocks attempts : ℕ) : Type 0 where
  pub same : (k : ℕ) → k < s.blocks → slots k ≡ scan.slot_in s.slots k
  pub count : blocks ≡ s.blocks
  pub calls : attempts ≡ s.attempts

-- the device of the pages, as it stands under the frames
pub record IsPoolLeft (v : Paged) (slots : ℕ → Slot) (blocks failures attempts : ℕ) : Type 0 where
  pub same : (page : ℕ) → page < v.pages → slots page ≡ slot_of v page
  pub count : blocks ≡ v.blocks
  pub failed : failures ≡ v.failures
  pub calls : attempts ≡ v.attempts

-- a device of which so many blocks are as they were
pub record IsDiskLeft (below : ℕ) (old new : ℕ → Slot) (blocks attempts count calls : ℕ) : Type 0 where
  pub same : (k : ℕ) → k < below → new k ≡ old k
  pub count_is : count ≡ blocks
  pub calls_are : calls ≡ attempts

-- The pages as they are opened: nothing waits yet, the rows are those of the checkpoint, and no lease number is used.
pub record IsPoolOpened (checkpoint : Option Checkpoint) (v : Pooled) : Type 0 where
  pub queues : QueuesOf [] v
  pub rows : HasRowsFrom (position_of checkpoint) (rows_of checkpoint) v
  pub none : total_waiting v.waits ≡ 0
  pub numbered : v.next ≡ Some 1
