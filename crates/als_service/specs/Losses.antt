-- Which refusals of a session say that its connection was lost.
use Rattle.als_ship.specs.declared.fault.Fault.{Fault as SessionFault}
use Rattle.als_ship.specs.declared.fault.Fault.TheVariants as session
use Rattle.als_operate.specs.declared.fault.Fault.{Fault}
use Rattle.als_operate.specs.declared.fault.Fault.TheVariants.{Memory, Stream, Folder, Session, Refused, OtherLog}

-- the stream of a session ended early, or it failed
abbrev pub IsLostSession : SessionFault → Type 0
IsLostSession session.BadHeader = ⊥
IsLostSession session.Memory = ⊥
IsLostSession session.Gap = ⊥
IsLostSession session.BadFrame = ⊥
IsLostSession (session.Diverged seal) = ⊥
IsLostSession session.Cut = Unit {0}
IsLostSession session.Stream = Unit {0}
IsLostSession (session.OtherEpoch epoch) = ⊥
IsLostSession (session.Refused cause) = ⊥

-- so it did, or nobody answered
abbrev pub IsLost : Fault → Type 0
IsLost Memory = ⊥
IsLost Stream = Unit {0}
IsLost (Folder fault) = ⊥
IsLost (Session fault) = IsLostSession fault
IsLost (Refused cause) = ⊥
IsLost OtherLog = ⊥
