-- Which of the faults of all crates each fault of this one is, and of which file it tells.
use Rattle.std.specs.Prelude.{Option, None}
use Rattle.als_fault.specs.declared.fault_kind.FaultKind.{FaultKind}
use Rattle.als_fault.specs.declared.fault_kind.FaultKind.TheVariants as kind
use Rattle.als_folder.specs.declared.trouble.Trouble.{Trouble}
use Rattle.als_lookback.specs.FaultNames.{kind_of as look_kind_of, trouble_of as look_trouble_of}
use Rattle.als_renew.specs.declared.fault.Fault.{Fault}
use Rattle.als_renew.specs.declared.fault.Fault.TheVariants.{Look, InDoubt}

-- a transaction in doubt holds the keys that it wrote
abbrev pub kind_of : Fault → FaultKind
kind_of (Look fault) = look_kind_of fault
kind_of (InDoubt trans) = kind.RecordHeld trans.0

abbrev pub trouble_of : Fault → Option Trouble
trouble_of (Look fault) = look_trouble_of fault
trouble_of (InDoubt trans) = None
