-- Which of the faults of all crates each fault of this one is, and which of this one those of the crates below are.
use Rattle.als_fault.specs.declared.fault_kind.FaultKind.{FaultKind}
use Rattle.als_fault.specs.declared.fault_kind.FaultKind.TheVariants as kind
use Rattle.als_record.specs.CauseNames.{kind_of_cause}
use Rattle.als_record.specs.FaultNames.{kind_of as kind_of_shape}
use Rattle.als_record.specs.declared.fault.Fault.{Fault as ShapeFault}
use Rattle.als_record.specs.declared.fault.Fault.TheVariants as shape
use Rattle.als_validator.specs.declared.fault.Fault.{Fault as Judgement}
use Rattle.als_validator.specs.declared.fault.Fault.TheVariants as judgement
use Rattle.als_log.specs.declared.fault.Fault.{Fault as LogFault}
use Rattle.als_log.specs.declared.fault.Fault.TheVariants as logged
use Rattle.als_scan.specs.declared.fault.Fault.{Fault}
use Rattle.als_scan.specs.declared.fault.Fault.TheVariants.{Shape, Invalid, BadControl, Device, Memory}

abbrev pub kind_of : Fault → FaultKind
kind_of (Shape shape) = kind_of_shape shape
kind_of (Invalid cause) = kind_of_cause cause
kind_of BadControl = kind.BadControl
kind_of Device = kind.Device
kind_of Memory = kind.Memory

-- a shape fault; want of memory is no fault of bytes
abbrev pub of_shape : ShapeFault → Fault
of_shape shape.Memory = Memory
of_shape shape.BadHeader = Shape shape.BadHeader
of_shape shape.BadLength = Shape shape.BadLength
of_shape shape.BadType = Shape shape.BadType
of_shape shape.BadReserved = Shape shape.BadReserved
of_shape shape.WrongLsn = Shape shape.WrongLsn
of_shape shape.BadKey = Shape shape.BadKey
of_shape shape.BadValue = Shape shape.BadValue

abbrev pub of_judgement : Judgement → Fault
of_judgement (judgement.Invalid cause) = Invalid cause
of_judgement judgement.Memory = Memory

-- a log that is taken up again meets want of memory and a failed device alone
abbrev pub of_log : LogFault → Fault
of_log logged.Memory = Memory
of_log logged.Device = Device
of_log logged.NothingToDo = Device
of_log logged.LogFull = Device
