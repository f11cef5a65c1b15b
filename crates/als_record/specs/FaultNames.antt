-- Which of the faults of all crates each fault of this one is.
use Rattle.als_fault.specs.declared.fault_kind.FaultKind.{FaultKind}
use Rattle.als_fault.specs.declared.fault_kind.FaultKind.TheVariants as kind
use Rattle.als_record.specs.declared.fault.Fault.{Fault}
use Rattle.als_record.specs.declared.fault.Fault.TheVariants as fault

abbrev pub kind_of : Fault → FaultKind
kind_of fault.BadHeader = kind.BadHeader
kind_of fault.BadLength = kind.BadLength
kind_of fault.BadType = kind.BadType
kind_of fault.BadReserved = kind.BadReserved
kind_of fault.WrongLsn = kind.WrongLsn
kind_of fault.BadKey = kind.BadKey
kind_of fault.BadValue = kind.BadValue
kind_of fault.Memory = kind.Memory
