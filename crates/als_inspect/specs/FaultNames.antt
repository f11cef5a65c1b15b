-- Which of the faults of all crates each fault of this one is, and of which file it tells.
use Rattle.std.specs.Prelude.{Option, None}
use Rattle.als_fault.specs.declared.fault_kind.FaultKind.{FaultKind}
use Rattle.als_fault.specs.declared.fault_kind.FaultKind.TheVariants as kind
use Rattle.als_engine.specs.Faults.{kind_of as engine_kind_of}
use Rattle.als_folder.specs.FaultNames.{kind_of as folder_kind_of, trouble_of as folder_trouble_of}
use Rattle.als_folder.specs.declared.part.Part.TheVariants as part
use Rattle.als_folder.specs.declared.trouble.Trouble.{Trouble}
use Rattle.als_folder.specs.declared.trouble.Wrong.TheVariants as wrong
use Rattle.als_folder.specs.Troubles.{told, trouble_of_kind}
use Rattle.als_scan.specs.FaultNames.{kind_of as scan_kind_of}
use Rattle.als_inspect.specs.declared.fault.Fault.{Fault}
use Rattle.als_inspect.specs.declared.fault.Fault.TheVariants.{Memory, Stream, BadHeader, BadControl, Cut, Folder, Log, Standby}

abbrev pub kind_of : Fault → FaultKind
kind_of Memory = kind.Memory
kind_of Stream = kind.Stream
kind_of BadHeader = kind.BadHeader
kind_of BadControl = kind.BadControl
kind_of Cut = kind.Cut
kind_of (Folder fault) = folder_kind_of fault
kind_of (Log fault) = scan_kind_of fault
kind_of (Standby fault) = engine_kind_of fault

-- what of the folder is wrong; of a log file it is told as of the folder's log
abbrev pub trouble_of : Fault → Option Trouble
trouble_of Memory = None
trouble_of Stream = None
trouble_of BadHeader = told part.Log wrong.NoHeader
trouble_of BadControl = told part.Control wrong.BadControl
trouble_of Cut = told part.Log wrong.Short
trouble_of (Folder fault) = folder_trouble_of fault
trouble_of (Log fault) = trouble_of_kind (scan_kind_of fault)
trouble_of (Standby fault) = trouble_of_kind (engine_kind_of fault)
