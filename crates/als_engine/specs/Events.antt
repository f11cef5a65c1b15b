-- What each of the other events makes of the small machine, and what it answers.
use Rattle.std.specs.Prelude.{◌≡◌, ℕ, ◌⊎◌, false, [], Option, None, Result, Ok, Err}
use Rattle.als_record.specs.declared.lsn.Lsn.{Lsn}
use Rattle.als_record.specs.declared.record.Record.{Record}
use Rattle.als_log.specs.Reading.{HasRowsAt}
use Rattle.als_page.specs.declared.page.Page.{Page}
use Rattle.als_page.specs.Page.{id_of, state_of}
use Rattle.als_frames.specs.Frames.{slot_of}
use Rattle.als_frames.specs.Outcomes.{IsBad}
use Rattle.als_pool.specs.Outcomes.{IsPageNow}
use Rattle.als_pool.specs.Pooled.{view_of}
use Rattle.als_store.specs.Stored.{Stored, StandsAt, IsShown}
use Rattle.als_store.specs.Warm.{WasWarm}
use Rattle.als_store.specs.Events.{Breaks, FailsToRead, WritesLog, SyncsLog, WritesMark, BreaksMark}
use Rattle.als_store.specs.Events.{SyncsControl, FlushesPage}
use Rattle.als_store.specs.Events.{BreaksFlush, SyncsDevice, BreaksSync, FailsToShow}
use Rattle.als_engine.specs.declared.fault.Fault.{Fault}
use Rattle.als_engine.specs.declared.fault.Fault.TheVariants.{Device, Memory, BadPage}
use Rattle.als_engine.specs.declared.step.Step.TheVariants as step
use Rattle.als_engine.specs.Machine.{Machine}
use Rattle.als_engine.specs.Refusals.{Does}

-- the event changes what is held, and nothing else
pub record Changes (old : Machine) (event : Stored → Stored → Type 0) (new : Machine) : Type 0 where
  pub held : Stored
  pub becomes : event old.held held
  pub after : new ≡ record old { held = held }

-- a device failed in the event
abbrev pub FailsIn : Machine → Fault → (Stored → Stored → Type 0) → Machine → Type 0
FailsIn old fault event new = (fault ≡ Device) × Changes old event new

-- ---- the events, where no cause stands against them

-- the partial record is dropped, and nothing is refused any more
abbrev pub resynced : Machine → Machine
resynced m = record m { partial = []; refused = None }

abbrev pub DropsPartial : Machine → Result (Unit {0}) Fault → Machine → Type 0
DropsPartial old (Ok done) new = new ≡ resynced old
DropsPartial old (Err fault) new = ⊥

-- a page is written to its block, by one write of a device
abbrev pub WritesPage : Machine → ℕ → Result (Unit {0}) Fault → Machine → Type 0
WritesPage old page (Ok done) new = Changes old (λ held after. FlushesPage held page after) new
WritesPage old page (Err fault) new =
    FailsIn old fault (λ held after. BreaksFlush held page after) new

-- the pages' device is synced, by one sync
abbrev pub SyncsAllPages : Machine → Result (Unit {0}) Fault → Machine → Type 0
SyncsAllPages old (Ok done) new = Changes old SyncsDevice new
SyncsAllPages old (Err fault) new = FailsIn old fault BreaksSync new

-- the first block with unwritten bytes of the log is written, by one write of a device
abbrev pub WritesBlock : Machine → Result (Unit {0}) Fault → Machine → Type 0
WritesBlock old (Ok done) new = Changes old WritesLog new
WritesBlock old (Err fault) new = FailsIn old fault Breaks new

-- the log is synced, by one sync of a device
abbrev pub SyncsBlocks : Machine → Result (Unit {0}) Fault → Machine → Type 0
SyncsBlocks old (Ok done) new = Changes old SyncsLog new
SyncsBlocks old (Err fault) new = FailsIn old fault Breaks new

-- the control block is written with the synced end as its mark, by one write of a device
abbrev pub MovesMark : Machine → Result (Unit {0}) Fault → Machine → Type 0
MovesMark old (Ok done) new = Changes old WritesMark new
MovesMark old (Err fault) new = FailsIn old fault BreaksMark new

-- the control block is synced, by one sync of a device, and its mark is answered: no log byte below
-- it can be lost
abbrev pub Acknowledges : Machine → Result Lsn Fault → Machine → Type 0
Acknowledges old (Ok lsn) new = Changes old (λ held after. SyncsControl held lsn after) new
Acknowledges old (Err fault) new = FailsIn old fault Breaks new

-- ---- the events, refused or not

abbrev pub Resyncs : Machine → Result (Unit {0}) Fault → Machine → Type 0
Resyncs old result new = Does old step.Resync (DropsPartial old) result new

abbrev pub FlushesOne : Machine → ℕ → Result (Unit {0}) Fault → Machine → Type 0
FlushesOne old page result new = Does old (step.Flush page) (WritesPage old page) result new

abbrev pub PagesSync : Machine → Result (Unit {0}) Fault → Machine → Type 0
PagesSync old result new = Does old step.SyncPages (SyncsAllPages old) result new

abbrev pub LogWrites : Machine → Result (Unit {0}) Fault → Machine → Type 0
LogWrites old result new = Does old step.LogWrite (WritesBlock old) result new

abbrev pub LogSyncs : Machine → Result (Unit {0}) Fault → Machine → Type 0
LogSyncs old result new = Does old step.LogSync (SyncsBlocks old) result new

abbrev pub MarkWrites : Machine → Result (Unit {0}) Fault → Machine → Type 0
MarkWrites old result new = Does old step.MarkWrite (MovesMark old) result new

abbrev pub ControlSyncs : Machine → Result Lsn Fault → Machine → Type 0
ControlSyncs old result new = Does old step.ControlSync (Acknowledges old) result new

-- ---- queries that may read a device

-- the record at an LSN, if one stands there; memory is wanted for an end_chkpt's rows alone; a read
-- that fails is counted, and nothing else changes
abbrev pub Reads : Machine → Lsn → Result (Option Record) Fault → Machine → Type 0
Reads old lsn (Ok found) new = StandsAt old.held.log lsn found × (new ≡ old)
Reads old lsn (Err fault) new =
    ((fault ≡ Memory) × HasRowsAt old.held.log lsn.0 × (new ≡ old))
    ⊎ ((fault ≡ Device) × (held : Stored) × FailsToRead old.held held
    × (new ≡ record old { held = held }))

-- A page has no frame, and a read of its block may give what is no block of the page: nothing
-- changes. It does not come where the devices were sound when the engine was made.
pub record FindsNoPage (old : Machine) (page : ℕ) (fault : Fault) (new : Machine) : Type 0 where
  pub answer : fault ≡ BadPage page
  pub bad : IsBad (slot_of old.held.pool.frames page) page
  pub unsound : WasWarm old.held → ⊥
  pub absent : (view_of old.held.pool page).resident ≡ false
  pub after : new ≡ old

-- The page of this number, as its frame has it or as a read of its block may give it. It is the
-- page as it is now where the devices were sound when the engine was made. Or none was found. A
-- read that fails is counted, and nothing else changes.
abbrev pub ShowsPage : Machine → ℕ → Result Page Fault → Machine → Type 0
ShowsPage old page (Ok shown) new =
    (id_of shown ≡ page) × IsPageNow old.held.pool page (state_of shown)
    × (WasWarm old.held → IsShown old.held page shown) × (new ≡ old)
ShowsPage old page (Err fault) new =
    FailsIn old fault (λ held after. FailsToShow held page after) new
    ⊎ FindsNoPage old page fault new
