-- Which of the faults of all crates each fault of the engine is, and which of its own each fault of
-- a lower crate becomes.
use Rattle.als_fault.specs.declared.fault_kind.FaultKind.{FaultKind}
use Rattle.als_fault.specs.declared.fault_kind.FaultKind.TheVariants as kind
use Rattle.als_record.specs.declared.fault.Fault.{Fault as RecordFault}
use Rattle.als_record.specs.declared.fault.Fault.TheVariants as record_fault
use Rattle.als_record.specs.declared.cause.Cause.{Cause}
use Rattle.als_record.specs.declared.cause.Cause.TheVariants as cause
use Rattle.als_store.specs.declared.fault.Fault.{Fault as StoreFault}
use Rattle.als_store.specs.declared.fault.Fault.TheVariants as store_fault
use Rattle.als_epochs.specs.declared.fault.Fault.{Fault as EpochFault}
use Rattle.als_epochs.specs.declared.fault.Fault.TheVariants as epoch_fault
use Rattle.als_reopen.specs.declared.fault.Fault.{Fault as OpenFault}
use Rattle.als_reopen.specs.declared.fault.Fault.TheVariants as open_fault
use Rattle.als_engine.specs.declared.fault.Fault.{Fault}
use Rattle.als_engine.specs.declared.fault.Fault.TheVariants.{BadHeader, BadLength, BadType}
use Rattle.als_engine.specs.declared.fault.Fault.TheVariants.{BadReserved, WrongLsn, BadKey}
use Rattle.als_engine.specs.declared.fault.Fault.TheVariants.{BadValue, BadPrev, OldTransaction}
use Rattle.als_engine.specs.declared.fault.Fault.TheVariants.{WrongState, WrongUndoNext}
use Rattle.als_engine.specs.declared.fault.Fault.TheVariants.{WrongCompensation, RecordHeld}
use Rattle.als_engine.specs.declared.fault.Fault.TheVariants.{BeforeImage, TooManyTransactions}
use Rattle.als_engine.specs.declared.fault.Fault.TheVariants.{BadCheckpoint, Recovering, Sealed}
use Rattle.als_engine.specs.declared.fault.Fault.TheVariants.{LogBehind, NotDrained, CkptBusy}
use Rattle.als_engine.specs.declared.fault.Fault.TheVariants.{PoolFull, NothingToDo, LogFull}
use Rattle.als_engine.specs.declared.fault.Fault.TheVariants.{Device, Stopped, Memory, BadPage}
use Rattle.als_engine.specs.declared.fault.Fault.TheVariants.{BadControl, Warming, Backlog}
use Rattle.als_engine.specs.declared.fault.Fault.TheVariants.{BadConfig, NotSealed, PageLent}
use Rattle.als_engine.specs.declared.fault.Fault.TheVariants.{Stranger, BadSlot, NumbersSpent}
use Rattle.als_engine.specs.declared.fault.Fault.TheVariants.{NotPrimary, NotInDoubt}
use Rattle.als_engine.specs.declared.fault.Fault.TheVariants.{Diverged, OtherEpoch, EpochsSpent}

abbrev pub kind_of : Fault → FaultKind
kind_of BadHeader = kind.BadHeader
kind_of BadLength = kind.BadLength
kind_of BadType = kind.BadType
kind_of BadReserved = kind.BadReserved
kind_of WrongLsn = kind.WrongLsn
kind_of BadKey = kind.BadKey
kind_of BadValue = kind.BadValue
kind_of BadPrev = kind.BadPrev
kind_of OldTransaction = kind.OldTransaction
kind_of WrongState = kind.WrongState
kind_of WrongUndoNext = kind.WrongUndoNext
kind_of WrongCompensation = kind.WrongCompensation
kind_of (RecordHeld by) = kind.RecordHeld by.0
kind_of BeforeImage = kind.BeforeImage
kind_of TooManyTransactions = kind.TooManyTransactions
kind_of BadCheckpoint = kind.BadCheckpoint
kind_of Recovering = kind.Recovering
kind_of Sealed = kind.Sealed
kind_of LogBehind = kind.LogBehind
kind_of NotDrained = kind.NotDrained
kind_of CkptBusy = kind.CkptBusy
kind_of PoolFull = kind.PoolFull
kind_of PageLent = kind.PageLent
kind_of Stranger = kind.Stranger
kind_of NothingToDo = kind.NothingToDo
kind_of LogFull = kind.LogFull
kind_of Device = kind.Device
kind_of Stopped = kind.Stopped
kind_of Memory = kind.Memory
kind_of (BadPage page) = kind.BadPage page
kind_of BadControl = kind.BadControl
kind_of Warming = kind.Warming
kind_of Backlog = kind.Backlog
kind_of BadConfig = kind.BadConfig
kind_of NotSealed = kind.NotSealed
kind_of BadSlot = kind.BadSlot
kind_of NumbersSpent = kind.NumbersSpent
kind_of NotPrimary = kind.NotPrimary
kind_of NotInDoubt = kind.NotInDoubt
kind_of (Diverged seal) = kind.Diverged seal.0
kind_of (OtherEpoch epoch) = kind.OtherEpoch epoch
kind_of EpochsSpent = kind.EpochsSpent

-- the same fault, as the engine answers it
abbrev pub from_record : RecordFault → Fault
from_record record_fault.BadHeader = BadHeader
from_record record_fault.BadLength = BadLength
from_record record_fault.BadType = BadType
from_record record_fault.BadReserved = BadReserved
from_record record_fault.WrongLsn = WrongLsn
from_record record_fault.BadKey = BadKey
from_record record_fault.BadValue = BadValue
from_record record_fault.Memory = Memory

-- the cause why a record may not follow the log, as the engine answers it
abbrev pub from_cause : Cause → Fault
from_cause cause.BadPrev = BadPrev
from_cause cause.OldTransaction = OldTransaction
from_cause cause.WrongState = WrongState
from_cause cause.WrongUndoNext = WrongUndoNext
from_cause cause.WrongCompensation = WrongCompensation
from_cause (cause.RecordHeld by) = RecordHeld by
from_cause cause.BeforeImage = BeforeImage
from_cause cause.TooManyTransactions = TooManyTransactions
from_cause cause.BadCheckpoint = BadCheckpoint

-- a fault of the store, as the engine answers it
abbrev pub from_store : StoreFault → Fault
from_store (store_fault.Invalid cause) = from_cause cause
from_store store_fault.LogBehind = LogBehind
from_store store_fault.CkptBusy = CkptBusy
from_store store_fault.PoolFull = PoolFull
from_store store_fault.PageLent = PageLent
from_store store_fault.NumbersSpent = NumbersSpent
from_store store_fault.NothingToDo = NothingToDo
from_store store_fault.LogFull = LogFull
from_store store_fault.Device = Device
from_store store_fault.Memory = Memory
from_store (store_fault.BadPage page) = BadPage page

-- why an offered history is refused, as the engine answers it
abbrev pub from_epochs : EpochFault → Fault
from_epochs (epoch_fault.OtherEpoch epoch) = OtherEpoch epoch
from_epochs (epoch_fault.Diverged seal) = Diverged seal

-- why devices were not taken up again, as the engine answers it
abbrev pub from_open : OpenFault → Fault
from_open (open_fault.Shape shape) = from_record shape
from_open (open_fault.Invalid cause) = from_cause cause
from_open open_fault.BadControl = BadControl
from_open open_fault.LogFull = LogFull
from_open open_fault.Device = Device
from_open open_fault.Memory = Memory
