-- Which of the faults of all crates each fault of a session is, and what those of a stream and of a judgement become.
use Rattle.std.specs.Prelude.{◌≡◌, ◌⊎◌}
use Rattle.als_fault.specs.declared.fault_kind.FaultKind.{FaultKind}
use Rattle.als_fault.specs.declared.fault_kind.FaultKind.TheVariants as kind
use Rattle.als_engine.specs.Faults.{kind_of as engine_kind_of}
use Rattle.als_epochs.specs.declared.fault.Fault.{Fault as EpochFault}
use Rattle.als_epochs.specs.declared.fault.Fault.TheVariants as epochs
use Rattle.als_wire.specs.declared.fault.Fault.{Fault as WireFault}
use Rattle.als_wire.specs.declared.fault.Fault.TheVariants as wire
use Rattle.als_ship.specs.declared.fault.Fault.{Fault}
use Rattle.als_ship.specs.declared.fault.Fault.TheVariants.{BadHeader, Memory, Gap, BadFrame, Diverged, Cut, Stream, OtherEpoch, Refused}

abbrev pub kind_of : Fault → FaultKind
kind_of BadHeader = kind.BadHeader
kind_of Memory = kind.Memory
kind_of Gap = kind.Gap
kind_of BadFrame = kind.BadFrame
kind_of (Diverged seal) = kind.Diverged seal.0
kind_of Cut = kind.Cut
kind_of Stream = kind.Stream
kind_of (OtherEpoch epoch) = kind.OtherEpoch epoch
kind_of (Refused fault) = engine_kind_of fault

-- what a fault of a frame is in a session
abbrev pub of_wire : WireFault → Fault
of_wire wire.BadHeader = BadHeader
of_wire wire.Memory = Memory
of_wire wire.BadFrame = BadFrame
of_wire wire.Cut = Cut
of_wire wire.Stream = Stream

-- what a judgement against a history is in a session
abbrev pub of_epochs : EpochFault → Fault
of_epochs (epochs.OtherEpoch epoch) = OtherEpoch epoch
of_epochs (epochs.Diverged seal) = Diverged seal

-- the stream has ended or failed
abbrev pub IsOfStream : Fault → Type 0
IsOfStream fault = (fault ≡ Cut) ⊎ (fault ≡ Stream)
