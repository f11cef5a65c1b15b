-- Which of the faults of all crates each fault of this one is, and of which file it tells.
use Rattle.std.specs.Prelude.{Option, None}
use Rattle.als_fault.specs.declared.fault_kind.FaultKind.{FaultKind}
use Rattle.als_fault.specs.declared.fault_kind.FaultKind.TheVariants as kind
use Rattle.als_record.specs.CauseNames.{kind_of_cause}
use Rattle.als_record.specs.FaultNames.{kind_of as kind_of_shape}
use Rattle.als_folder.specs.FaultNames.{kind_of as folder_kind_of, trouble_of as folder_trouble_of}
use Rattle.als_folder.specs.declared.part.Part.TheVariants as part
use Rattle.als_folder.specs.declared.trouble.Trouble.{Trouble}
use Rattle.als_folder.specs.declared.trouble.Wrong.TheVariants as wrong
use Rattle.als_folder.specs.Troubles.{told, trouble_of_kind}
use Rattle.als_record.specs.declared.fault.Fault.{Fault as ShapeFault}
use Rattle.als_record.specs.declared.fault.Fault.TheVariants as shape
use Rattle.als_validator.specs.declared.fault.Fault.{Fault as Judgement}
use Rattle.als_validator.specs.declared.fault.Fault.TheVariants as judgement
use Rattle.als_lookback.specs.declared.fault.Fault.{Fault}
use Rattle.als_lookback.specs.declared.fault.Fault.TheVariants.{Memory, Stream, BadHeader, BadControl, Cut, Folder, Shape, Invalid, InHeader, PastEnd, NoCommit, NotLonger, TooLong}

abbrev pub kind_of : Fault → FaultKind
kind_of Memory = kind.Memory
kind_of Stream = kind.Stream
kind_of BadHeader = kind.BadHeader
kind_of BadControl = kind.BadControl
kind_of Cut = kind.Cut
kind_of (Folder fault) = folder_kind_of fault
kind_of (Shape fault) = kind_of_shape fault
kind_of (Invalid cause) = kind_of_cause cause
kind_of InHeader = kind.BadConfig
kind_of (PastEnd end) = kind.BadConfig
kind_of NoCommit = kind.BadConfig
kind_of (NotLonger blocks) = kind.BadConfig
kind_of TooLong = kind.BadConfig

-- what of the folder is wrong; of a log file it is told as of the folder's log
abbrev pub trouble_of : Fault → Option Trouble
trouble_of Memory = None
trouble_of Stream = None
trouble_of BadHeader = told part.Log wrong.NoHeader
trouble_of BadControl = told part.Control wrong.BadControl
trouble_of Cut = told part.Log wrong.Short
trouble_of (Folder fault) = folder_trouble_of fault
trouble_of (Shape fault) = trouble_of_kind (kind_of_shape fault)
trouble_of (Invalid cause) = trouble_of_kind (kind_of_cause cause)
trouble_of InHeader = None
trouble_of (PastEnd end) = None
trouble_of NoCommit = None
trouble_of (NotLonger blocks) = None
trouble_of TooLong = None

-- a shape fault; want of memory is no fault of bytes
abbrev pub of_shape : ShapeFault → Fault
of_shape shape.Memory = Memory
of_shape shape.BadHeader = Shape shape.BadHeader
of_shape shape.BadLength = Shape shape.BadLength
of_shape shape.BadType = Shape shape.BadType
of_shape shape.BadReserved = Shape shape.BadReserved
of_shape shape.WrongLsn = Shape shape.WrongLsn
of_shape shape.BadKey = Shape shape.BadKey
of_shape shape.BadValue = Shape shape.BadValue

abbrev pub of_judgement : Judgement → Fault
of_judgement (judgement.Invalid cause) = Invalid cause
of_judgement judgement.Memory = Memory
