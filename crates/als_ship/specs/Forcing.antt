-- How a standby's log is forced.
use Rattle.std.specs.Prelude.{◌≡◌, ◌≢◌, ◌⊎◌, ℕ, zero, suc, Result, Ok, Err}
use Rattle.als_record.specs.declared.lsn.Lsn.{Lsn}
use Rattle.als_engine.specs.declared.fault.Fault.{Fault as EngineFault}
use Rattle.als_engine.specs.declared.fault.Fault.TheVariants.{NothingToDo}
use Rattle.als_engine.specs.Machine.{Machine}
use Rattle.als_engine.specs.Events.{LogWrites, LogSyncs, MarkWrites, ControlSyncs}
use Rattle.als_ship.specs.declared.fault.Fault.{Fault}
use Rattle.als_ship.specs.declared.fault.Fault.TheVariants.{Stream, Refused}

-- so many blocks of the log were written
abbrev pub Writes : ℕ → Machine → Machine → Type 0
Writes zero old new = new ≡ old
Writes (suc n) old new = (mid : Machine) × Writes n old mid × LogWrites mid (Ok tt) new

-- the log was written until there was nothing left to write
abbrev pub WritesAll : Machine → Machine → Type 0
WritesAll old new = (n : ℕ) × (mid : Machine) × Writes n old mid × LogWrites mid (Err NothingToDo) new

-- the log was synced, and its mark written where it had risen
pub record Syncs (old new : Machine) : Type 0 where
  pub synced : Machine
  pub syncs : LogSyncs old (Ok tt) synced
  pub answer : Result (Unit {0}) EngineFault
  pub either : (answer ≡ Ok tt) ⊎ (answer ≡ Err NothingToDo)
  pub marks : MarkWrites synced answer new

-- the log was written, synced and marked, and the control block synced, which answered this LSN
pub record Forces (old : Machine) (lsn : Lsn) (new : Machine) : Type 0 where
  pub written : Machine
  pub synced : Machine
  pub writes : WritesAll old written
  pub syncs : Syncs written synced
  pub acknowledges : ControlSyncs synced (Ok lsn) new

-- an event of a force was refused, and not for want of something to do
abbrev pub IsRefused : EngineFault → Machine → Type 0
IsRefused cause new =
    (old : Machine) × ((LogWrites old (Err cause) new × (cause ≢ NothingToDo)) ⊎ (LogSyncs old (Err cause) new ⊎ ((MarkWrites old (Err cause) new × (cause ≢ NothingToDo)) ⊎ ControlSyncs old (Err cause) new)))

-- why a force was not done, whoever drives the standby: an event was refused, or the log has too many blocks
abbrev pub IsOfForce : Fault → Type 0
IsOfForce fault = (fault ≡ Stream) ⊎ ((cause : EngineFault) × (fault ≡ Refused cause))

-- Why a force was not done: an event was refused. A log has fewer than 2^64 blocks.
abbrev pub FailsToForce : Fault → Machine → Type 0
FailsToForce fault new = (fault ≡ Stream) ⊎ ((cause : EngineFault) × (fault ≡ Refused cause) × IsRefused cause new)
