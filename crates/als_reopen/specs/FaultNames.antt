-- Which of the faults of all crates each fault of this one is, and which of this one those of the crates below are.
use Rattle.als_fault.specs.declared.fault_kind.FaultKind.{FaultKind}
use Rattle.als_fault.specs.declared.fault_kind.FaultKind.TheVariants as kind
use Rattle.als_record.specs.CauseNames.{kind_of_cause}
use Rattle.als_record.specs.FaultNames.{kind_of as kind_of_shape}
use Rattle.als_scan.specs.declared.fault.Fault.{Fault as ScanFault}
use Rattle.als_scan.specs.declared.fault.Fault.TheVariants as scan
use Rattle.als_ckpt.specs.declared.fault.Fault.{Fault as ControlFault}
use Rattle.als_ckpt.specs.declared.fault.Fault.TheVariants as control
use Rattle.als_reopen.specs.declared.fault.Fault.{Fault}
use Rattle.als_reopen.specs.declared.fault.Fault.TheVariants.{Shape, Invalid, BadControl, LogFull, Device, Memory}

abbrev pub kind_of : Fault → FaultKind
kind_of (Shape shape) = kind_of_shape shape
kind_of (Invalid cause) = kind_of_cause cause
kind_of BadControl = kind.BadControl
kind_of LogFull = kind.LogFull
kind_of Device = kind.Device
kind_of Memory = kind.Memory

-- the same fault, as a scan of the log has it
abbrev pub of_scan : ScanFault → Fault
of_scan (scan.Shape shape) = Shape shape
of_scan (scan.Invalid cause) = Invalid cause
of_scan scan.BadControl = BadControl
of_scan scan.Device = Device
of_scan scan.Memory = Memory

-- reading a control block meets a failed device, want of memory and a block that is none, and nothing else
abbrev pub of_control : ControlFault → Fault
of_control control.Device = Device
of_control control.BadControl = BadControl
of_control control.Memory = Memory
of_control control.NothingToDo = BadControl
of_control control.CkptBusy = BadControl
of_control control.LogBehind = BadControl
