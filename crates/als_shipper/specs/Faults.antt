-- What ends a shipper.
use Rattle.std.specs.Prelude.{◌≡◌, ◌⊎◌, Bool, true, false}
use Rattle.als_ship.specs.declared.fault.Fault.{Fault as SessionFault}
use Rattle.als_ship.specs.declared.fault.Fault.TheVariants as session
use Rattle.als_operate.specs.declared.fault.Fault.{Fault}
use Rattle.als_operate.specs.declared.fault.Fault.TheVariants.{Session}
use Rattle.als_operate.specs.FaultNames.{IsOfReader}

-- a session ended early, or a stream or an allocation failed
abbrev pub IsOfShipping : Fault → Type 0
IsOfShipping fault = IsOfReader fault ⊎ ((cause : SessionFault) × (fault ≡ Session cause))

-- so a session ends of one who asks for no log: it was silent, went away, or sent what is no question
abbrev pub asks_for_nothing : SessionFault → Bool
asks_for_nothing session.BadFrame = true
asks_for_nothing session.Cut = true
asks_for_nothing session.Stream = true
asks_for_nothing session.BadHeader = false
asks_for_nothing session.Memory = false
asks_for_nothing session.Gap = false
asks_for_nothing (session.Diverged seal) = false
asks_for_nothing (session.OtherEpoch epoch) = false
asks_for_nothing (session.Refused fault) = false
