-- Which of the faults of all crates each fault of this one is.
use Rattle.als_fault.specs.declared.fault_kind.FaultKind.{FaultKind}
use Rattle.als_fault.specs.declared.fault_kind.FaultKind.TheVariants as kind
use Rattle.als_epochs.specs.declared.fault.Fault.{Fault}
use Rattle.als_epochs.specs.declared.fault.Fault.TheVariants as fault

abbrev pub kind_of : Fault → FaultKind
kind_of (fault.OtherEpoch epoch) = kind.OtherEpoch epoch
kind_of (fault.Diverged seal) = kind.Diverged seal.0
