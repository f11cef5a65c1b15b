-- What of a folder is wrong, where its standby is refused.
use Rattle.std.specs.Prelude.{Option, Some, None}
use Rattle.als_fault.specs.declared.fault_kind.FaultKind.{FaultKind}
use Rattle.als_fault.specs.declared.fault_kind.FaultKind.TheVariants.{BadHeader, BadLength, BadType, BadReserved, WrongLsn, BadKey, BadValue, BadPrev, OldTransaction, WrongState, WrongUndoNext, WrongCompensation, RecordHeld, BeforeImage, TooManyTransactions, BadCheckpoint, LogFull, Device, BadPage, BadControl}
use Rattle.als_folder.specs.declared.part.Part.{Part}
use Rattle.als_folder.specs.declared.part.Part.TheVariants as part
use Rattle.als_folder.specs.declared.trouble.Trouble.{Trouble}
use Rattle.als_folder.specs.declared.trouble.Wrong.{Wrong}
use Rattle.als_folder.specs.declared.trouble.Wrong.TheVariants as wrong

-- this is wrong with this part
abbrev pub told : Part → Wrong → Option Trouble
told p w = Some (record { part = p; wrong = w })

-- what a refusal says of the files
abbrev pub trouble_of_kind : FaultKind → Option Trouble
trouble_of_kind BadHeader = told part.Log wrong.NoHeader
trouble_of_kind BadLength = told part.Log wrong.BadRecord
trouble_of_kind BadType = told part.Log wrong.BadRecord
trouble_of_kind BadReserved = told part.Log wrong.BadRecord
trouble_of_kind WrongLsn = told part.Log wrong.BadRecord
trouble_of_kind BadKey = told part.Log wrong.BadRecord
trouble_of_kind BadValue = told part.Log wrong.BadRecord
trouble_of_kind BadPrev = told part.Log wrong.BadRecord
trouble_of_kind OldTransaction = told part.Log wrong.BadRecord
trouble_of_kind WrongState = told part.Log wrong.BadRecord
trouble_of_kind WrongUndoNext = told part.Log wrong.BadRecord
trouble_of_kind WrongCompensation = told part.Log wrong.BadRecord
trouble_of_kind (RecordHeld by) = told part.Log wrong.BadRecord
trouble_of_kind BeforeImage = told part.Log wrong.BadRecord
trouble_of_kind TooManyTransactions = told part.Log wrong.BadRecord
trouble_of_kind BadCheckpoint = told part.Log wrong.BadRecord
trouble_of_kind LogFull = told part.Log wrong.Full
trouble_of_kind Device = told part.Itself wrong.Failed
trouble_of_kind (BadPage page) = told part.Pages (wrong.BadPage page)
trouble_of_kind BadControl = told part.Control wrong.BadControl
trouble_of_kind _ = None
