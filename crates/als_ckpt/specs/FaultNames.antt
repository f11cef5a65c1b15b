-- Which of the faults of all crates each fault of this one is.
use Rattle.als_fault.specs.declared.fault_kind.FaultKind.{FaultKind}
use Rattle.als_fault.specs.declared.fault_kind.FaultKind.TheVariants as kind
use Rattle.als_ckpt.specs.declared.fault.Fault.{Fault}
use Rattle.als_ckpt.specs.declared.fault.Fault.TheVariants as fault
use Rattle.als_ckpt_codec.specs.declared.fault.Fault.{Fault as CodecFault}
use Rattle.als_ckpt_codec.specs.declared.fault.Fault.TheVariants as codec

abbrev pub kind_of : Fault → FaultKind
kind_of fault.Device = kind.Device
kind_of fault.BadControl = kind.BadControl
kind_of fault.Memory = kind.Memory
kind_of fault.NothingToDo = kind.NothingToDo
kind_of fault.CkptBusy = kind.CkptBusy
kind_of fault.LogBehind = kind.LogBehind

-- the same fault, as the bytes of a checkpoint have it
abbrev pub of_codec : CodecFault → Fault
of_codec codec.BadControl = fault.BadControl
of_codec codec.Memory = fault.Memory
