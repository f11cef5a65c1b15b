-- Which of the faults of all crates each fault of this one is.
use Rattle.als_fault.specs.declared.fault_kind.FaultKind.{FaultKind}
use Rattle.als_fault.specs.declared.fault_kind.FaultKind.TheVariants as kind
use Rattle.als_record.specs.declared.cause.Cause.{Cause}
use Rattle.als_record.specs.declared.cause.Cause.TheVariants as cause

abbrev pub kind_of_cause : Cause → FaultKind
kind_of_cause cause.BadPrev = kind.BadPrev
kind_of_cause cause.OldTransaction = kind.OldTransaction
kind_of_cause cause.WrongState = kind.WrongState
kind_of_cause cause.WrongUndoNext = kind.WrongUndoNext
kind_of_cause cause.WrongCompensation = kind.WrongCompensation
kind_of_cause (cause.RecordHeld by) = kind.RecordHeld by.0
kind_of_cause cause.BeforeImage = kind.BeforeImage
kind_of_cause cause.TooManyTransactions = kind.TooManyTransactions
kind_of_cause cause.BadCheckpoint = kind.BadCheckpoint
