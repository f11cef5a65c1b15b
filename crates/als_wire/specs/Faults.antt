-- Which of the faults of all crates each fault of a stream is.
use Rattle.std.specs.Prelude.{◌≡◌, ◌⊎◌}
use Rattle.als_fault.specs.declared.fault_kind.FaultKind.{FaultKind}
use Rattle.als_fault.specs.declared.fault_kind.FaultKind.TheVariants as kind
use Rattle.als_wire.specs.declared.fault.Fault.{Fault}
use Rattle.als_wire.specs.declared.fault.Fault.TheVariants.{BadHeader, Memory, BadFrame, Cut, Stream}

abbrev pub kind_of : Fault → FaultKind
kind_of BadHeader = kind.BadHeader
kind_of Memory = kind.Memory
kind_of BadFrame = kind.BadFrame
kind_of Cut = kind.Cut
kind_of Stream = kind.Stream

-- the stream has ended or failed
abbrev pub IsOfStream : Fault → Type 0
IsOfStream fault = (fault ≡ Cut) ⊎ (fault ≡ Stream)
