-- Which of the faults of all crates each fault of a command is, and of which file it tells.
use Rattle.std.specs.Prelude.{◌≡◌, ◌⊎◌, Option, None}
use Rattle.als_fault.specs.declared.fault_kind.FaultKind.{FaultKind}
use Rattle.als_fault.specs.declared.fault_kind.FaultKind.TheVariants as kind
use Rattle.als_engine.specs.Faults.{kind_of as engine_kind_of}
use Rattle.als_folder.specs.FaultNames.{kind_of as folder_kind_of, trouble_of as folder_trouble_of}
use Rattle.als_folder.specs.declared.trouble.Trouble.{Trouble}
use Rattle.als_ship.specs.Faults.{kind_of as session_kind_of}
use Rattle.als_folder.specs.Troubles.{trouble_of_kind}
use Rattle.als_operate.specs.declared.fault.Fault.{Fault}
use Rattle.als_operate.specs.declared.fault.Fault.TheVariants.{Memory, Stream, Folder, Session, Refused, OtherLog}

abbrev pub kind_of : Fault → FaultKind
kind_of Memory = kind.Memory
kind_of Stream = kind.Stream
kind_of (Folder fault) = folder_kind_of fault
kind_of (Session fault) = session_kind_of fault
kind_of (Refused fault) = engine_kind_of fault
kind_of OtherLog = kind.OtherLog

-- what of the folder is wrong; what a session refuses is no file's fault
abbrev pub trouble_of : Fault → Option Trouble
trouble_of Memory = None
trouble_of Stream = None
trouble_of (Folder fault) = folder_trouble_of fault
trouble_of (Session fault) = None
trouble_of (Refused fault) = trouble_of_kind (engine_kind_of fault)
trouble_of OtherLog = None

-- a reader failed or has too much, or an allocation failed
abbrev pub IsOfReader : Fault → Type 0
IsOfReader fault = (fault ≡ Memory) ⊎ (fault ≡ Stream)
