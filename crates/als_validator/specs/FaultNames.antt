-- Which of the faults of all crates each fault of this one is.
use Rattle.std.specs.Prelude.{Option, Some, None, Result, Ok, Err}
use Rattle.als_record.specs.declared.cause.Cause.{Cause}
use Rattle.als_fault.specs.declared.fault_kind.FaultKind.{FaultKind}
use Rattle.als_fault.specs.declared.fault_kind.FaultKind.TheVariants as kind
use Rattle.als_record.specs.CauseNames.{kind_of_cause}
use Rattle.als_validator.specs.declared.fault.Fault.{Fault}
use Rattle.als_validator.specs.declared.fault.Fault.TheVariants as fault

abbrev pub kind_of : Fault → FaultKind
kind_of (fault.Invalid cause) = kind_of_cause cause
kind_of fault.Memory = kind.Memory

-- what is answered of a record: that it may follow, or the first cause why not
abbrev pub answer_of : Option Cause → Result (Unit {0}) Fault
answer_of None = Ok tt
answer_of (Some cause) = Err (fault.Invalid cause)
