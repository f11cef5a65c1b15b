-- Which blocks have which bytes of a text: byte o of the text is byte o mod 512 of block o / 512.
use Rattle.std.specs.Prelude.{◌≡◌, ℕ, ◌<◌, ◌+◌, ◌*◌, List, Contains, slice_index}

-- a content of block b has the text's bytes below an end
abbrev pub HasText : List ℕ → ℕ → ℕ → List ℕ → Type 0
HasText text end b content = (o : ℕ) → o < 512 → 512 * b + o < end → slice_index content o ≡ slice_index text (512 * b + o)

-- below an end each of the contents of a device has the text
abbrev pub AllHaveText : (ℕ → List (List ℕ)) → List ℕ → ℕ → Type 0
AllHaveText contents text end = (b : ℕ) (x : List ℕ) → Contains (contents b) x → HasText text end b x
