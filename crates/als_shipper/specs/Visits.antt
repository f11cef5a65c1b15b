-- Those who came to a shipper, and what was sent to each.
use Rattle.std.specs.Prelude.{◌≡◌, ◌⊎◌, ℕ, List, [], ◌∷◌, ◌++◌, Option}
use Rattle.std.specs.List.{AllByRecursion}
use Rattle.std.specs.Io.KnownBytes.{Appends}
use Rattle.als_record.specs.declared.header.LogHeader.{LogHeader}
use Rattle.als_record.specs.declared.lsn.Lsn.{Lsn}
use Rattle.als_ship.specs.Wire.{Ships, SendsTrue, EndsServing}

-- One who came: what it had sent then and what is left to read of it, what was written to it before and what is since.
pub record Visit : Type 0 where
  pub asked : Option (List ℕ)
  pub behind : Option (List ℕ)
  pub told : Option (List ℕ)
  pub after : Option (List ℕ)

-- somebody came
abbrev pub comes : Option (List ℕ) → Option (List ℕ) → List Visit → List Visit
comes asked told met = record { asked = asked; behind = asked; told = told; after = told } ∷ met

-- the last who came goes: so much is left to read of it, and that was written to it
abbrev pub goes : Option (List ℕ) → Option (List ℕ) → List Visit → List Visit
goes behind after [] = []
goes behind after (visit ∷ before) = record visit { behind = behind; after = after } ∷ before

-- nothing was sent to it
abbrev pub IsPassed : Visit → Type 0
IsPassed visit = Appends visit.told visit.after []

-- One came, and nothing was sent to it.
abbrev pub PassesLast : List Visit → List Visit → Type 0
PassesLast old new = (last : Visit) × (new ≡ last ∷ old) × IsPassed last

-- One came, who was told the history and sent all of the text from where it goes on: n log bytes.
abbrev pub ShipsLast : List ℕ → List ℕ → LogHeader → List Visit → List Visit → ℕ → Option Lsn → Type 0
ShipsLast text seals header old new n kept = (last : Visit) × (new ≡ last ∷ old) × Ships text seals header last.asked last.behind last.told last.after n kept

-- One came, who was sent true frames of the text, and then a front of one at most.
abbrev pub SendsLast : List ℕ → List ℕ → List Visit → List Visit → Type 0
SendsLast text seals old new = (last : Visit) × (new ≡ last ∷ old) × SendsTrue text seals last.told last.after

-- One came, and the session with it ended early.
abbrev pub EndsLast : List ℕ → List ℕ → List Visit → List Visit → Option Lsn → Type 0
EndsLast text seals old new kept = (last : Visit) × (new ≡ last ∷ old) × EndsServing text seals last.asked last.told last.after kept

-- more came, to whom nothing was sent
abbrev pub PassesOver : List Visit → List Visit → Type 0
PassesOver old new = (passed : List Visit) × (new ≡ passed ++ old) × AllByRecursion IsPassed passed

-- some were passed over, and then the last one came, who was told the history and sent all of the text from where it goes on: n log bytes
abbrev pub ShipsTo : List ℕ → List ℕ → LogHeader → List Visit → List Visit → ℕ → Option Lsn → Type 0
ShipsTo text seals header old new n kept = (before : List Visit) × PassesOver old before × ShipsLast text seals header before new n kept

-- some were passed over, and then perhaps one came, who was sent true frames of the text, and a front of one at most
abbrev pub SendsTrueTo : List ℕ → List ℕ → List Visit → List Visit → Type 0
SendsTrueTo text seals old new = (before : List Visit) × PassesOver old before × ((new ≡ before) ⊎ SendsLast text seals before new)

-- some were passed over, and then the session with the last one ended early
abbrev pub EndsServingTo : List ℕ → List ℕ → List Visit → List Visit → Option Lsn → Type 0
EndsServingTo text seals old new kept = (before : List Visit) × PassesOver old before × EndsLast text seals before new kept
