-- Which of the faults of all crates each fault of this one is, and of which file it tells.
use Rattle.std.specs.Prelude.{Option, None}
use Rattle.als_fault.specs.declared.fault_kind.FaultKind.{FaultKind}
use Rattle.als_fault.specs.declared.fault_kind.FaultKind.TheVariants as kind
use Rattle.als_folder.specs.declared.trouble.Trouble.{Trouble}
use Rattle.als_lookback.specs.FaultNames.{kind_of as look_kind_of, trouble_of as look_trouble_of}
use Rattle.als_operate.specs.FaultNames.{kind_of as node_kind_of, trouble_of as node_trouble_of}
use Rattle.als_backup.specs.declared.fault.Fault.{Fault}
use Rattle.als_backup.specs.declared.fault.Fault.TheVariants.{Look, Node, NotEmpty, TooFew, NoPages, BadSeals}

abbrev pub kind_of : Fault → FaultKind
kind_of (Look fault) = look_kind_of fault
kind_of (Node fault) = node_kind_of fault
kind_of NotEmpty = kind.Device
kind_of (TooFew needed) = kind.BadConfig
kind_of NoPages = kind.BadHeader
kind_of BadSeals = kind.BadConfig

abbrev pub trouble_of : Fault → Option Trouble
trouble_of (Look fault) = look_trouble_of fault
trouble_of (Node fault) = node_trouble_of fault
trouble_of NotEmpty = None
trouble_of (TooFew needed) = None
trouble_of NoPages = None
trouble_of BadSeals = None
