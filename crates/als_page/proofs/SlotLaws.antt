-- Laws of a slot's bytes.
use Rattle.std.proofs.Common.{◌≡◌, ℕ, suc, ◌+◌, ◌-◌, ◌<◌, ◌≤◌, List, [], ◌∷◌, ◌++◌, length, replicate, get_or, take, slice_range, slice_set, Some, None, refl, ap, sym, ◌∙◌, subst, arith, length-append}
use Rattle.std.proofs.lemmas.List.{take_at, length-replicate}
use Rattle.std.specs.List.{AllByRecursion}
use Rattle.als_record.specs.Spelling.{Image, IsImage}
use Rattle.als_record.specs.KeptImages.{first_of, rest_of}
use Rattle.als_page.specs.Block.{slot_bytes}

-- a slot takes 32 bytes
pub length-slot_bytes : (image : Image) → IsImage image → length (slot_bytes image) ≡ 32
unfolding slot_bytes
length-slot_bytes None h = refl
length-slot_bytes (Some value) h =
    omega (arith, h.size, length-append value.items (replicate (31 - length value.items) 0), length-replicate {A = ℕ} (31 - length value.items) 0)

-- a first byte of 0 says that the image is absent
pub slot_bytes-absent : (bytes : List ℕ) (image : Image) → bytes ≡ slot_bytes image → get_or bytes 0 0 ≡ 0 → None ≡ image
unfolding slot_bytes
slot_bytes-absent bytes None is first = refl
slot_bytes-absent bytes (Some value) is first = absurd (omega (arith, first, ap (λ xs. get_or xs 0 0) is))

-- another first byte says the length of a value, which follows
pub slot_bytes-present : (bytes : List ℕ) (n : ℕ) (image : Image) → bytes ≡ slot_bytes image → get_or bytes 0 0 ≡ n → 0 < n
    → Some (record { items = slice_range bytes 1 n }) ≡ image
unfolding slot_bytes
slot_bytes-present bytes n None is first lt = absurd (omega (arith, first, ap (λ xs. get_or xs 0 0) is))
slot_bytes-present bytes n (Some value) is first lt =
    let len : n - 1 ≡ length value.items = omega (arith, first, ap (λ xs. get_or xs 0 0) is) in
    let same : slice_range bytes 1 n ≡ value.items = ap (λ xs. slice_range xs 1 n) is
    ∙ ap (λ k. take k (value.items ++ replicate (31 - length value.items) 0)) len
    ∙ take_at value.items (replicate (31 - length value.items) 0) (length value.items) refl in
    let back : List ℕ → Image = λ xs. Some (record { items = xs }) in
    ap back same

-- the first byte is at most 32
pub slot_bytes-first : (image : Image) → IsImage image → get_or (slot_bytes image) 0 0 ≤ 32
unfolding slot_bytes
slot_bytes-first None h = omega arith
slot_bytes-first (Some value) h = omega (arith, h.size)

-- bytes below 256, by place and by recursion
pub bytes-by_recursion : (bytes : List ℕ) → ((k : ℕ) → get_or bytes k 0 < 256) → AllByRecursion (λ b. b < 256) bytes
bytes-by_recursion [] h = tt
bytes-by_recursion (b ∷ bytes) h = (h 0, bytes-by_recursion bytes (λ k. h (suc k)))

-- the bytes in front of others
bytes-front : (front back : List ℕ) → AllByRecursion (λ b. b < 256) (front ++ back) → AllByRecursion (λ b. b < 256) front
bytes-front [] back h = tt
bytes-front (b ∷ front) back h = (h.0, bytes-front front back h.1)

-- a single byte, set
pub set-one : (bytes : List ℕ) (b : ℕ) → length bytes ≡ 1 → slice_set bytes 0 b ≡ b ∷ []
set-one [] b len = absurd (omega (arith, len))
set-one (x ∷ []) b len = refl
set-one (x ∷ y ∷ bytes) b len = absurd (omega (arith, len))

-- a slot is the bytes that its image is kept in
pub slot_bytes-kept : (image : Image) → first_of image ∷ rest_of image ≡ slot_bytes image
unfolding slot_bytes
slot_bytes-kept None = refl
slot_bytes-kept (Some value) = refl

-- the bytes that an image is kept in are those of an image
pub IsImage-kept : (image : Image) (rest : List ℕ) → rest ≡ rest_of image → length rest ≡ 31 → ((k : ℕ) → get_or rest k 0 < 256) → IsImage image
IsImage-kept None rest is len fits = record { size = omega arith; bytes = tt }
IsImage-kept (Some value) rest is len fits =
    let zeros : List ℕ = replicate (31 - length value.items) 0 in
    let size : length value.items ≤ 31 = omega (arith, len, ap length is, length-append value.items zeros, length-replicate {A = ℕ} (31 - length value.items) 0) in
    let all : AllByRecursion (λ b. b < 256) (value.items ++ zeros) = subst (AllByRecursion (λ b. b < 256)) is (bytes-by_recursion rest fits) in
    record { size = size; bytes = bytes-front value.items zeros all }

-- no two images have one slot
pub slot_bytes-injective : (a b : Image) → slot_bytes a ≡ slot_bytes b → a ≡ b
unfolding slot_bytes
slot_bytes-injective None b same = slot_bytes-absent (slot_bytes None) b same refl
slot_bytes-injective (Some value) b same =
    let n = length value.items + 1 in
    let zeros : List ℕ = replicate (31 - length value.items) 0 in
    let here : length value.items ≡ n - 1 = omega arith in
    let some' : 0 < n = omega arith in
    let back : List ℕ → Image = λ xs. Some (record { items = xs }) in
    sym (ap back (take_at value.items zeros (n - 1) here)) ∙ slot_bytes-present (slot_bytes (Some value)) n b same refl some'
