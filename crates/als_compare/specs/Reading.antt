-- Why no question or answer is read.
use Rattle.std.specs.Prelude.{◌≡◌, ◌≢◌, ◌⊎◌, ℕ, List, [], ◌∷◌, Option}
use Rattle.std.specs.Io.KnownBytes.{Consumes}
use Rattle.als_wire.specs.declared.fault.Fault.{Fault}
use Rattle.als_wire.specs.declared.fault.Fault.TheVariants.{BadHeader, Memory, BadFrame, Cut, Stream}
use Rattle.als_compare.specs.declared.verdict.Verdict.{Verdict}
use Rattle.als_compare.specs.Frames.{byte_of}

-- one byte that is another one than a frame begins with
abbrev pub IsOtherTag : ℕ → List ℕ → Type 0
IsOtherTag tag bytes = (byte : ℕ) × (byte ≢ tag) × (bytes ≡ byte ∷ [])

-- one byte with which no question and no answer begins
abbrev pub IsNoTag : List ℕ → Type 0
IsNoTag bytes = IsOtherTag 86 bytes

-- one byte that is no verdict
abbrev pub IsNoVerdict : List ℕ → Type 0
IsNoVerdict bytes = (byte : ℕ) × ((verdict : Verdict) → byte ≡ byte_of verdict → ⊥) × (bytes ≡ byte ∷ [])

-- bytes that begin no answer: nothing behind them is looked at
abbrev pub IsNoAnswer : List ℕ → Type 0
IsNoAnswer bytes = IsNoTag bytes ⊎ ((part : List ℕ) × IsNoVerdict part × (bytes ≡ 86 ∷ part))

-- why nothing was read, and what was: the stream has ended or failed, or what came begins none
abbrev pub FailsToRead : (List ℕ → Type 0) → Fault → Option (List ℕ) → Option (List ℕ) → Type 0
FailsToRead none BadHeader old new = ⊥
FailsToRead none Memory old new = ⊥
FailsToRead none BadFrame old new = (bytes : List ℕ) × none bytes × Consumes old new bytes
FailsToRead none Cut old new = Unit {0}
FailsToRead none Stream old new = Unit {0}
