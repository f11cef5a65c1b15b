-- Which ends of a session end all.
use Rattle.std.specs.Prelude.{Option, Some, None, Result, Ok, Err, Bool, false, true}
use Rattle.als_fault.specs.declared.fault_kind.FaultKind.{FaultKind}
use Rattle.als_fault.specs.declared.fault_kind.FaultKind.TheVariants as kind
use Rattle.als_operate.specs.declared.fault.Fault.{Fault}
use Rattle.als_operate.specs.FaultNames.{kind_of}

-- What asking again can't mend: the database was taken over, its log has no room, a device failed or had failed, a page or the control block is
-- damaged, or the primary's log is another one.
abbrev pub is_final : FaultKind → Bool
is_final kind.Sealed = true
is_final kind.LogFull = true
is_final kind.Device = true
is_final kind.Stopped = true
is_final (kind.BadPage page) = true
is_final kind.BadControl = true
is_final (kind.Diverged seal) = true
is_final (kind.OtherEpoch epoch) = true
is_final kind.OtherLog = true
is_final _ = false

-- a session ended with such a fault
abbrev pub ends_it : Option (Result (Unit {0}) Fault) → Bool
ends_it (Some (Err fault)) = is_final (kind_of fault)
ends_it (Some (Ok done)) = false
ends_it None = false
