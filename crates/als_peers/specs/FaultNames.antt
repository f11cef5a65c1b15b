-- Which of the faults of all crates each fault of this one is, and of which file it tells.
use Rattle.std.specs.Prelude.{Option, None}
use Rattle.als_fault.specs.declared.fault_kind.FaultKind.{FaultKind}
use Rattle.als_fault.specs.declared.fault_kind.FaultKind.TheVariants as kind
use Rattle.als_folder.specs.declared.trouble.Trouble.{Trouble}
use Rattle.als_inspect.specs.FaultNames.{kind_of as node_kind_of, trouble_of as node_trouble_of}
use Rattle.als_peers.specs.declared.fault.Fault.{Fault}
use Rattle.als_peers.specs.declared.fault.Fault.TheVariants.{Memory, Node, Above, Silent}

abbrev pub kind_of : Fault → FaultKind
kind_of Memory = kind.Memory
kind_of (Node fault) = node_kind_of fault
kind_of Above = kind.LogBehind
kind_of Silent = kind.Stream

abbrev pub trouble_of : Fault → Option Trouble
trouble_of Memory = None
trouble_of (Node fault) = node_trouble_of fault
trouble_of Above = None
trouble_of Silent = None
