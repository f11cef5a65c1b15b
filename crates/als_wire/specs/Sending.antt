-- What is written, also where the writer fails.
use Rattle.std.specs.Prelude.{◌≡◌, ℕ, List, ◌++◌, Option}
use Rattle.std.specs.Io.KnownBytes.{Appends}

-- a front of the bytes was written
abbrev pub Puts : List ℕ → Option (List ℕ) → Option (List ℕ) → Type 0
Puts bytes old new = (front rest : List ℕ) × (bytes ≡ front ++ rest) × Appends old new front

-- the bytes stand at the front of a buffer
abbrev pub StandsIn : List ℕ → List ℕ → Type 0
StandsIn bytes room = (rest : List ℕ) × (room ≡ bytes ++ rest)
