-- A field that is read is the field that was written, and what was written is read again.
use Rattle.std.proofs.Common.{◌≡◌, ℕ, suc, ◌+◌, ◌^◌, ◌<◌, ◌≤◌, Bool, true, false, eqb, leb, List, [], ◌∷◌, ◌++◌, length, get_or, take, drop, Some, None, refl, sym, ap, subst, ◌∙◌, arith, inl, inr}
use Rattle.std.specs.List.{AllByRecursion}
use Rattle.std.specs.Int.{Width, w16, w32, w64, byte_len, from_be_bytes, to_be_bytes}
use Rattle.std.proofs.lemmas.Bool.{cases_lt, eqb-true, ne_eqb, leb-true, le-leb, or_cases, or_left}
use Rattle.std.proofs.lemmas.List.{take_at, take-append-drop, length-take, length-drop, get_or-drop, get_or-take, get_or_past, drop-drop, take-append-le, drop-append-le, nil_from_length}
use Rattle.std.proofs.lemmas.Nat.{be_bytes_2, be_bytes_4, be_bytes_8, from_be_bytes-to_be_bytes_2, from_be_bytes-to_be_bytes_4, from_be_bytes-to_be_bytes_8}
use Rattle.als_record.specs.Spelling.{Image, length_byte, image_bytes, image_len, IsImage}
use Rattle.als_record.specs.Reading.{is_length_byte, len_of_byte, image_of}

abbrev pub IsBytes : List ℕ → Type 0
IsBytes bytes = (i : ℕ) → get_or bytes i 0 < 256

pub IsBytes-drop : (n : ℕ) (bytes : List ℕ) → IsBytes bytes → IsBytes (drop n bytes)
IsBytes-drop n bytes h i = rw get_or-drop (h (n + i))

pub IsBytes-take : (n : ℕ) (bytes : List ℕ) → IsBytes bytes → IsBytes (take n bytes)
IsBytes-take n bytes h i =
    elim (cases_lt i n) [
      | inl lt ↦ rw (get_or-take n bytes i 0 lt) (h i)
      | inr le ↦ rw (get_or_past (take n bytes) i 0 (omega (arith, length-take n bytes))) (omega arith)
    ]

pub bytes_all : (bytes : List ℕ) → IsBytes bytes → AllByRecursion (λ b. b < 256) bytes
bytes_all [] h = tt
bytes_all (b ∷ bytes) h = (h 0, bytes_all bytes (λ i. h (suc i)))

-- ---- numbers

pub record IsWide (w : Width) (limit : ℕ) : Type 0 where
  pub len : (n : ℕ) → length (to_be_bytes w n) ≡ byte_len w
  pub back : (bytes : List ℕ) → length bytes ≡ byte_len w → IsBytes bytes → to_be_bytes w (from_be_bytes w bytes) ≡ bytes
  pub again : (n : ℕ) → n < limit → from_be_bytes w (to_be_bytes w n) ≡ n
  pub below : (bytes : List ℕ) → IsBytes bytes → from_be_bytes w bytes < limit

pub wide16 : IsWide w16 (2 ^ 16)
wide16 = record {
  len = λ n. refl;
  back = λ bytes len fits. be_bytes_2 bytes _ len fits refl;
  again = λ n lt. from_be_bytes-to_be_bytes_2 n lt;
  below = λ bytes fits. omega (arith, fits 0, fits 1);
}

pub wide32 : IsWide w32 (2 ^ 32)
wide32 = record {
  len = λ n. refl;
  back = λ bytes len fits. be_bytes_4 bytes _ len fits refl;
  again = λ n lt. from_be_bytes-to_be_bytes_4 n lt;
  below = λ bytes fits. omega (arith, fits 0, fits 1, fits 2, fits 3);
}

pub wide64 : IsWide w64 (2 ^ 64)
wide64 = record {
  len = λ n. refl;
  back = λ bytes len fits. be_bytes_8 bytes _ len fits refl;
  again = λ n lt. from_be_bytes-to_be_bytes_8 n lt;
  below = λ bytes fits. omega (arith, fits 0, fits 1, fits 2, fits 3, fits 4, fits 5, fits 6, fits 7);
}

-- the number at a place
abbrev pub number_at : Width → ℕ → List ℕ → ℕ
number_at w i bytes = from_be_bytes w (take (byte_len w) (drop i bytes))

-- what stands at a place begins with the number that is read there
pub number_field : (w : Width) (limit : ℕ) (wide : IsWide w limit) (i : ℕ) (bytes : List ℕ) → IsBytes bytes → i + byte_len w ≤ length bytes
    → drop i bytes ≡ to_be_bytes w (number_at w i bytes) ++ drop (i + byte_len w) bytes
number_field w limit wide i bytes fits long =
    let len : length (take (byte_len w) (drop i bytes)) ≡ byte_len w = omega (arith, length-take (byte_len w) (drop i bytes), length-drop i bytes) in
    let front : to_be_bytes w (number_at w i bytes) ≡ take (byte_len w) (drop i bytes) = wide.back (take (byte_len w) (drop i bytes)) len (IsBytes-take (byte_len w) (drop i bytes) (IsBytes-drop i bytes fits)) in
    rw (front, ← drop-drop (byte_len w) i bytes) (sym (take-append-drop (byte_len w) (drop i bytes)))

pub number_below : (w : Width) (limit : ℕ) (wide : IsWide w limit) (i : ℕ) (bytes : List ℕ) → IsBytes bytes → number_at w i bytes < limit
number_below w limit wide i bytes fits = wide.below (take (byte_len w) (drop i bytes)) (IsBytes-take (byte_len w) (drop i bytes) (IsBytes-drop i bytes fits))

-- a number that was written is read at its place
pub number_again : (w : Width) (limit : ℕ) (wide : IsWide w limit) (i : ℕ) (bytes rest : List ℕ) (n : ℕ) → n < limit → drop i bytes ≡ to_be_bytes w n ++ rest → number_at w i bytes ≡ n
number_again w limit wide i bytes rest n lt e = rw (e, take_at (to_be_bytes w n) rest (byte_len w) (wide.len n)) (wide.again n lt)

-- more bytes behind do not change what is read in front
pub number_more : (w : Width) (i : ℕ) (bytes more : List ℕ) → i + byte_len w ≤ length bytes → number_at w i (bytes ++ more) ≡ number_at w i bytes
number_more w i bytes more long =
    let short : i ≤ length bytes = omega arith in
    let enough : byte_len w ≤ length (drop i bytes) = omega (arith, length-drop i bytes) in
    ap (λ (xs : List ℕ). from_be_bytes w (take (byte_len w) xs)) (drop-append-le i bytes more short) ∙ ap (λ (xs : List ℕ). from_be_bytes w xs) (take-append-le (byte_len w) (drop i bytes) more enough)

-- ---- images

pub record IsImageOf (byte : ℕ) (bytes : List ℕ) : Type 0 where
  pub byte_is : length_byte (image_of byte bytes) ≡ byte
  pub bytes_are : image_bytes (image_of byte bytes) ≡ bytes
  pub fits : IsImage (image_of byte bytes)

image_with : (absent : Bool) (byte : ℕ) (bytes : List ℕ) → eqb byte 255 ≡ absent → is_length_byte byte ≡ true → length bytes ≡ len_of_byte byte → IsBytes bytes → IsImageOf byte bytes
image_with true byte bytes e h len fits =
    let is : byte ≡ 255 = eqb-true byte 255 e in
    let nothing : bytes ≡ [] = nil_from_length bytes (len ∙ ap len_of_byte is) in
    subst (λ (p : ℕ × List ℕ). IsImageOf p.0 p.1) (ap (λ (b : ℕ). (b, bytes)) (sym is)) (subst (λ (xs : List ℕ). IsImageOf 255 xs) (sym nothing) (record { byte_is = refl; bytes_are = refl; fits = record { size = omega arith; bytes = tt } }))
image_with false byte bytes e h len fits =
    let short : length bytes ≡ byte = len ∙ rw e refl in
    let made : image_of byte bytes ≡ Some (record { items = bytes }) = rw e refl in
    let small : byte ≤ 31 = elim (or_cases (leb byte 31) (eqb byte 255) h) [ inl le ↦ leb-true byte 31 le | inr eq ↦ absurd cc ] in
    record {
      byte_is = ap length_byte made ∙ short;
      bytes_are = ap image_bytes made;
      fits = subst IsImage (sym made) (record { size = omega arith; bytes = bytes_all bytes fits });
    }

pub image_found : (byte : ℕ) (bytes : List ℕ) → is_length_byte byte ≡ true → length bytes ≡ len_of_byte byte → IsBytes bytes → IsImageOf byte bytes
image_found byte bytes = image_with (eqb byte 255) byte bytes refl

pub record IsReadAgain (image : Image) : Type 0 where
  pub is_byte : is_length_byte (length_byte image) ≡ true
  pub len : len_of_byte (length_byte image) ≡ image_len image
  pub read : image_of (length_byte image) (image_bytes image) ≡ image

pub image_again : (image : Image) → IsImage image → IsReadAgain image
image_again None fits = record { is_byte = refl; len = refl; read = refl }
image_again (Some value) fits =
    let there : eqb (length value.items) 255 ≡ false = ne_eqb (length value.items) 255 (λ e. omega (arith, fits.size)) in
    record {
      is_byte = or_left (leb (length value.items) 31) (eqb (length value.items) 255) (le-leb (length value.items) 31 fits.size);
      len = rw there refl;
      read = rw there refl;
    }
