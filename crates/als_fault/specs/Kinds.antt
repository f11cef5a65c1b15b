-- The numbers and names of faults, as programs print them.
use Rattle.std.specs.Prelude.{ℕ, List, [], ◌++◌, Option, Some, None, codes}
use Rattle.std.specs.Fmt.{decimal}
use Rattle.als_fault.specs.declared.fault_kind.FaultKind.{FaultKind}
use Rattle.als_fault.specs.declared.fault_kind.FaultKind.TheVariants.{BadHeader, BadLength, BadType, BadReserved, WrongLsn, BadKey, BadValue, BadPrev, OldTransaction, WrongState, WrongUndoNext, WrongCompensation, RecordHeld, BeforeImage, TooManyTransactions, BadCheckpoint, Recovering, Sealed, LogBehind, NotDrained, PoolFull, PageLent, Stranger, NothingToDo, CkptBusy, LogFull, Device, Stopped, Memory, BadPage, BadControl, Warming, Backlog, BadConfig, NotSealed, BadSlot, Gap, BadFrame, Diverged, Cut, Stream, NumbersSpent, NotPrimary, NotInDoubt, OtherEpoch, EpochsSpent, OtherLog}

abbrev pub number_of : FaultKind → ℕ
number_of BadHeader = 1
number_of BadLength = 2
number_of BadType = 3
number_of BadReserved = 4
number_of WrongLsn = 5
number_of BadKey = 6
number_of BadValue = 7
number_of BadPrev = 8
number_of OldTransaction = 9
number_of WrongState = 10
number_of WrongUndoNext = 11
number_of WrongCompensation = 12
number_of (RecordHeld by) = 13
number_of BeforeImage = 14
number_of TooManyTransactions = 15
number_of BadCheckpoint = 16
number_of Recovering = 20
number_of Sealed = 21
number_of LogBehind = 22
number_of NotDrained = 23
number_of PoolFull = 24
number_of PageLent = 25
number_of Stranger = 26
number_of NothingToDo = 27
number_of CkptBusy = 28
number_of LogFull = 29
number_of Device = 30
number_of Stopped = 31
number_of Memory = 32
number_of (BadPage page) = 33
number_of BadControl = 34
number_of Warming = 35
number_of Backlog = 36
number_of BadConfig = 37
number_of NotSealed = 38
number_of BadSlot = 39
number_of Gap = 40
number_of BadFrame = 41
number_of (Diverged seal) = 42
number_of Cut = 43
number_of Stream = 44
number_of NumbersSpent = 45
number_of NotPrimary = 46
number_of NotInDoubt = 47
number_of (OtherEpoch epoch) = 48
number_of EpochsSpent = 49
number_of OtherLog = 50

abbrev pub name_of : FaultKind → List ℕ
name_of BadHeader = codes "BadHeader"
name_of BadLength = codes "BadLength"
name_of BadType = codes "BadType"
name_of BadReserved = codes "BadReserved"
name_of WrongLsn = codes "WrongLsn"
name_of BadKey = codes "BadKey"
name_of BadValue = codes "BadValue"
name_of BadPrev = codes "BadPrev"
name_of OldTransaction = codes "OldTransaction"
name_of WrongState = codes "WrongState"
name_of WrongUndoNext = codes "WrongUndoNext"
name_of WrongCompensation = codes "WrongCompensation"
name_of (RecordHeld by) = codes "RecordHeld"
name_of BeforeImage = codes "BeforeImage"
name_of TooManyTransactions = codes "TooManyTransactions"
name_of BadCheckpoint = codes "BadCheckpoint"
name_of Recovering = codes "Recovering"
name_of Sealed = codes "Sealed"
name_of LogBehind = codes "LogBehind"
name_of NotDrained = codes "NotDrained"
name_of PoolFull = codes "PoolFull"
name_of PageLent = codes "PageLent"
name_of Stranger = codes "Stranger"
name_of NothingToDo = codes "NothingToDo"
name_of CkptBusy = codes "CkptBusy"
name_of LogFull = codes "LogFull"
name_of Device = codes "Device"
name_of Stopped = codes "Stopped"
name_of Memory = codes "Memory"
name_of (BadPage page) = codes "BadPage"
name_of BadControl = codes "BadControl"
name_of Warming = codes "Warming"
name_of Backlog = codes "Backlog"
name_of BadConfig = codes "BadConfig"
name_of NotSealed = codes "NotSealed"
name_of BadSlot = codes "BadSlot"
name_of Gap = codes "Gap"
name_of BadFrame = codes "BadFrame"
name_of (Diverged seal) = codes "Diverged"
name_of Cut = codes "Cut"
name_of Stream = codes "Stream"
name_of NumbersSpent = codes "NumbersSpent"
name_of NotPrimary = codes "NotPrimary"
name_of NotInDoubt = codes "NotInDoubt"
name_of (OtherEpoch epoch) = codes "OtherEpoch"
name_of EpochsSpent = codes "EpochsSpent"
name_of OtherLog = codes "OtherLog"

-- the number that a fault carries
abbrev pub carried_of : FaultKind → Option ℕ
carried_of (RecordHeld by) = Some by
carried_of (BadPage page) = Some page
carried_of (Diverged seal) = Some seal
carried_of (OtherEpoch epoch) = Some epoch
carried_of _ = None

-- what is printed behind the name
abbrev pub carried_text : Option ℕ → List ℕ
carried_text None = []
carried_text (Some carried) = codes " " ++ decimal carried

-- what is printed of a fault: its number, its name, and the number that it carries, if any
abbrev pub text_of : FaultKind → List ℕ
text_of kind = decimal (number_of kind) ++ codes " " ++ name_of kind ++ carried_text (carried_of kind)
