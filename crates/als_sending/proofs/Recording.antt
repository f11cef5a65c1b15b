-- One byte more of the last read.
use Rattle.std.proofs.Common.{◌≡◌, ℕ, List, [], ◌∷◌, ◌++◌, refl, ap}
use Rattle.als_sending.specs.Reads.{Read}
use Rattle.als_sending.specs.Accounts.{with_byte}

pub byte_added : (reads : List Read) (at : ℕ) (bytes : List ℕ) (byte : ℕ) → with_byte (reads ++ record { at = at; bytes = bytes } ∷ []) byte ≡ reads ++ record { at = at; bytes = bytes ++ byte ∷ [] } ∷ []
byte_added [] at bytes byte = refl
byte_added (r ∷ []) at bytes byte = refl
byte_added (r ∷ next ∷ reads) at bytes byte = ap (λ (rs : List Read). r ∷ rs) (byte_added (next ∷ reads) at bytes byte)
