-- The sessions with a primary, one after another: what it was told in each, and how each ended.
use Rattle.std.specs.Prelude.{◌≡◌, ℕ, List, [], ◌∷◌, ◌++◌, Option, Some, None, Result, Err, false, true}
use Rattle.std.specs.List.{AllByRecursion}
use Rattle.als_operate.specs.declared.fault.Fault.{Fault}
use Rattle.als_operate.specs.FaultNames.{kind_of}
use Rattle.als_ship.specs.Vouching.{TellsVouched}
use Rattle.als_service.specs.Endings.{is_final, ends_it}

-- One session: what had been written to its stream before, and what is since; and how it ended, if it has: Some None where no thread could be
-- started or allocation failed.
pub record Session : Type 0 where
  pub told : Option (List ℕ)
  pub after : Option (List ℕ)
  pub ended : Option (Option (Result (Unit {0}) Fault))

-- one more begins
abbrev pub begins : Option (List ℕ) → List Session → List Session
begins told met = record { told = told; after = told; ended = None } ∷ met

-- the last one ends: that is written to its stream, and it ended so
abbrev pub ends : Option (List ℕ) → Option (Result (Unit {0}) Fault) → List Session → List Session
ends after ended [] = []
ends after ended (session ∷ before) = record session { after = after; ended = Some ended } ∷ before

-- none begins: there was no connection, for this reason
abbrev pub refuses : Fault → List Session → List Session
refuses fault met = record { told = None; after = None; ended = Some (Some (Err fault)) } ∷ met

-- each LSN that was answered in it is at most the floor
abbrev pub IsVouched : ℕ → Session → Type 0
IsVouched floor session = TellsVouched floor session.told session.after

-- one session came, and it is so in that one
abbrev pub VouchesLast : ℕ → List Session → List Session → Type 0
VouchesLast floor old new = (last : Session) × (new ≡ last ∷ old) × IsVouched floor last

-- more sessions came, and it is so in each of them
abbrev pub VouchesAll : ℕ → List Session → List Session → Type 0
VouchesAll floor old new = (more : List Session) × (new ≡ more ++ old) × AllByRecursion (IsVouched floor) more

-- one session came, and it ended so
abbrev pub EndsOne : Option (Result (Unit {0}) Fault) → List Session → List Session → Type 0
EndsOne ended old new = (last : Session) × (new ≡ last ∷ old) × (last.ended ≡ Some ended)

-- it has ended, and not in a way that ends all
abbrev pub GoesOn : Session → Type 0
GoesOn session = (ended : Option (Result (Unit {0}) Fault)) × (session.ended ≡ Some ended) × (ends_it ended ≡ false)

-- more sessions came, and it went on after each of them
abbrev pub GoesOnAll : List Session → List Session → Type 0
GoesOnAll old new = (more : List Session) × (new ≡ more ++ old) × AllByRecursion GoesOn more

-- more sessions came, it went on after each but the last one, and that one ended with this fault, which ends all
abbrev pub EndsLast : Fault → List Session → List Session → Type 0
EndsLast fault old new =
    (last : Session) × (more : List Session) × (new ≡ last ∷ (more ++ old)) × (last.ended ≡ Some (Some (Err fault)))
    × (is_final (kind_of fault) ≡ true) × AllByRecursion GoesOn more
