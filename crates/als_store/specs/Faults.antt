-- Which of the faults of all crates each fault of this one is.
use Rattle.als_fault.specs.declared.fault_kind.FaultKind.{FaultKind}
use Rattle.als_fault.specs.declared.fault_kind.FaultKind.TheVariants as kind
use Rattle.als_record.specs.CauseNames.{kind_of_cause}
use Rattle.als_log.specs.declared.fault.Fault.{Fault as LogFault}
use Rattle.als_log.specs.declared.fault.Fault.TheVariants as log_fault
use Rattle.als_pool.specs.declared.fault.Fault.{Fault as PoolFault}
use Rattle.als_pool.specs.declared.fault.Fault.TheVariants as pool_fault
use Rattle.als_store.specs.declared.fault.Fault.{Fault}
use Rattle.als_store.specs.declared.fault.Fault.TheVariants as fault

abbrev pub kind_of : Fault → FaultKind
kind_of (fault.Invalid cause) = kind_of_cause cause
kind_of fault.LogBehind = kind.LogBehind
kind_of fault.CkptBusy = kind.CkptBusy
kind_of fault.PoolFull = kind.PoolFull
kind_of fault.PageLent = kind.PageLent
kind_of fault.NothingToDo = kind.NothingToDo
kind_of fault.LogFull = kind.LogFull
kind_of fault.Device = kind.Device
kind_of fault.Memory = kind.Memory
kind_of (fault.BadPage page) = kind.BadPage page
kind_of fault.NumbersSpent = kind.NumbersSpent

-- what a fault of the log is here
abbrev pub of_log : LogFault → Fault
of_log log_fault.NothingToDo = fault.NothingToDo
of_log log_fault.LogFull = fault.LogFull
of_log log_fault.Device = fault.Device
of_log log_fault.Memory = fault.Memory

-- what a fault of the pool is here
abbrev pub of_pool : PoolFault → Fault
of_pool pool_fault.LogBehind = fault.LogBehind
of_pool pool_fault.PoolFull = fault.PoolFull
of_pool pool_fault.PageLent = fault.PageLent
of_pool pool_fault.NothingToDo = fault.NothingToDo
of_pool pool_fault.Device = fault.Device
of_pool pool_fault.Memory = fault.Memory
of_pool (pool_fault.BadPage page) = fault.BadPage page
of_pool pool_fault.NumbersSpent = fault.NumbersSpent
