-- An image and the 32 bytes that it is kept in: what a value's bytes and zeros are, and rows worked by hand.
use Rattle.std.proofs.Common.{◌≡◌, ◌∙◌, ℕ, ◌+◌, ◌-◌, ◌≤◌, List, [], ◌∷◌, ◌++◌, length, take, replicate, Some, None, refl, ap, sym, arith, length-append}
use Rattle.std.proofs.lemmas.List.{take_at, length-replicate}
use Rattle.als_record.specs.Spelling.{Image}
use Rattle.als_record.specs.KeptImages.{image_kept, image_kept-value, first_of, rest_of}

-- the image that is kept of a value's bytes with zeros behind them
pub image_kept-padded : (bytes rest : List ℕ) → rest ≡ bytes ++ replicate (31 - length bytes) 0 → image_kept (length bytes + 1) rest ≡ Some (record { items = bytes })
image_kept-padded bytes rest is =
    let all : length bytes ≡ length bytes + 1 - 1 = omega arith in
    let same : take (length bytes + 1 - 1) rest ≡ bytes = ap (take (length bytes + 1 - 1)) is ∙ take_at bytes (replicate (31 - length bytes) 0) (length bytes + 1 - 1) all in
    let back : List ℕ → Image = λ xs. Some (record { items = xs }) in
    image_kept-value (length bytes + 1) rest (omega arith) ∙ ap back same

-- which are the 31 bytes of that image
pub rest_of-padded : (bytes rest : List ℕ) → rest ≡ bytes ++ replicate (31 - length bytes) 0 → rest ≡ rest_of (image_kept (length bytes + 1) rest)
rest_of-padded bytes rest is = is ∙ sym (ap rest_of (image_kept-padded bytes rest is))

pub length-padded : (bytes rest : List ℕ) → length bytes ≤ 31 → rest ≡ bytes ++ replicate (31 - length bytes) 0 → length rest ≡ 31
length-padded bytes rest le is = omega (arith, le, ap length is, length-append bytes (replicate (31 - length bytes) 0), length-replicate {A = ℕ} (31 - length bytes) 0)

-- ---- worked rows: none, the empty value, one of two bytes, one of 31

-- a value of 31 bytes
abbrev full : List ℕ
full = 1 ∷ 2 ∷ 3 ∷ 4 ∷ 5 ∷ 6 ∷ 7 ∷ 8 ∷ 9 ∷ 10 ∷ 11 ∷ 12 ∷ 13 ∷ 14 ∷ 15 ∷ 16 ∷ 17 ∷ 18 ∷ 19 ∷ 20 ∷ 21 ∷ 22 ∷ 23 ∷ 24 ∷ 25 ∷ 26 ∷ 27 ∷ 28 ∷ 29 ∷ 30 ∷ 31 ∷ []

none-first : first_of None ≡ 0
none-first = refl

none-rest : rest_of None ≡ replicate 31 0
none-rest = refl

none-kept : image_kept 0 (replicate 31 0) ≡ None
none-kept = refl

empty-first : first_of (Some (record { items = [] })) ≡ 1
empty-first = refl

empty-rest : rest_of (Some (record { items = [] })) ≡ replicate 31 0
empty-rest = refl

empty-kept : image_kept 1 (replicate 31 0) ≡ Some (record { items = [] })
empty-kept = refl

two-first : first_of (Some (record { items = 7 ∷ 0 ∷ [] })) ≡ 3
two-first = refl

two-rest : rest_of (Some (record { items = 7 ∷ 0 ∷ [] })) ≡ 7 ∷ 0 ∷ replicate 29 0
two-rest = refl

two-kept : image_kept 3 (7 ∷ 0 ∷ replicate 29 0) ≡ Some (record { items = 7 ∷ 0 ∷ [] })
two-kept = refl

full-first : first_of (Some (record { items = full })) ≡ 32
full-first = refl

full-rest : rest_of (Some (record { items = full })) ≡ full
full-rest = refl

full-kept : image_kept 32 full ≡ Some (record { items = full })
full-kept = refl
