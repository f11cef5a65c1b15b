-- The fault of a refusal.
use Rattle.std.specs.Prelude.{Option, Some, None}
use Rattle.als_engine.specs.declared.fault.Fault.{Fault}
use Rattle.als_engine.specs.declared.fault.Fault.TheVariants as fault
use Rattle.als_writer.specs.declared.not_decided.NotDecided.{NotDecided}
use Rattle.als_writer.specs.declared.not_decided.NotDecided.TheVariants as undecided
use Rattle.als_writer.specs.declared.refusal.Refusal.{Refusal}
use Rattle.als_writer.specs.declared.refusal.Refusal.TheVariants.{Invalid, State, Untidy, Held, NotAsAsked, NumbersSpent, TooMany, LogFull, Memory, Unplanned}

-- the fault by which a refusal is printed, where it has a number
abbrev pub fault_of : Refusal → Option Fault
fault_of (Invalid flaw) = None
fault_of (State f) = Some f
fault_of Untidy = None
fault_of (Held key by) = Some (fault.RecordHeld by)
fault_of (NotAsAsked failing) = None
fault_of NumbersSpent = Some fault.NumbersSpent
fault_of TooMany = Some fault.TooManyTransactions
fault_of LogFull = Some fault.LogFull
fault_of (Memory owed) = Some fault.Memory
fault_of (Unplanned f) = Some f

-- the fault by which it is printed that a transaction is not decided
abbrev pub fault_undecided : NotDecided → Option Fault
fault_undecided undecided.NotInDoubt = Some fault.NotInDoubt
fault_undecided undecided.Untidy = None
fault_undecided (undecided.State f) = Some f
fault_undecided undecided.Memory = Some fault.Memory
