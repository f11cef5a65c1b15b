-- How an image is kept in 32 bytes: one that says how long its value is, and 31 with the value.
use Rattle.std.specs.Prelude.{ℕ, ◌==◌, ◌+◌, ◌-◌, List, ◌++◌, length, take, replicate, Some, None, if◌then◌else◌}
use Rattle.std.proofs.Common.{◌≡◌, ◌∙◌, zero, suc, ◌<◌, ◌≤◌, inl, inr, refl, ap, arith, length-take-le}
use Rattle.std.proofs.lemmas.Bool.{cases_Bool, eqb-true}
use Rattle.als_record.specs.Spelling.{Image}

-- the image that is kept so: first is 0 for none, else a value's length and one
abbrev pub image_kept : ℕ → List ℕ → Image
image_kept first rest = if first == 0 then None else Some (record { items = take (first - 1) rest })

-- the first byte of what is kept of an image
abbrev pub first_of : Image → ℕ
first_of None = 0
first_of (Some value) = length value.items + 1

-- the other 31 bytes: the value's, and zeros behind them
abbrev pub rest_of : Image → List ℕ
rest_of None = replicate 31 0
rest_of (Some value) = value.items ++ replicate (31 - length value.items) 0

-- a first byte above 0 is that of a value
pub image_kept-value : (first : ℕ) (rest : List ℕ) → 0 < first → image_kept first rest ≡ Some (record { items = take (first - 1) rest })
image_kept-value first rest some' = elim (cases_Bool (first == 0)) [
  | inl y ↦ absurd (omega (arith, some', eqb-true first 0 y))
  | inr y ↦ rw y refl
]

-- what is kept gives its first byte back
pub first_of-image_kept : (first : ℕ) (rest : List ℕ) → first ≤ 32 → length rest ≡ 31 → first_of (image_kept first rest) ≡ first
first_of-image_kept zero rest most len = refl
first_of-image_kept (suc n) rest most len =
    let same : length (take (suc n - 1) rest) + 1 ≡ suc n = omega (arith, length-take-le (suc n - 1) rest (omega (arith, most, len))) in
    ap first_of (image_kept-value (suc n) rest (omega arith)) ∙ same
