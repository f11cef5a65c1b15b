-- A header that is read is spelled so, and what is spelled so is read.
use Rattle.std.proofs.Common.{◌≡◌, ℕ, ◌^◌, ◌<◌, ◌≤◌, Bool, true, false, eqb, ltb, leb, List, ◌∷◌, ◌++◌, length, take, drop, Option, Some, None, Result, Ok, Err, refl, sym, ap, subst, ◌∙◌, append_assoc, arith}
use Rattle.std.specs.Prelude.{not, ◌&&◌, if◌then◌else◌, IfOk, MatchOption, codes}
use Rattle.std.specs.Int.{w32, to_be_bytes}
use Rattle.std.proofs.lemmas.Bool.{and_parts, and_from, ltb-true, ltb-false, le-ltb, leb-true, le-leb, eqb-true}
use Rattle.std.proofs.lemmas.List.{take_at, take-append-drop, length-append}
use Rattle.std.proofs.lemmas.Slice.Eq.{bytes_eq-Decides}
use Rattle.als_record.specs.declared.header.LogHeader.{LogHeader}
use Rattle.als_record.specs.declared.fault.Fault.{Fault}
use Rattle.als_record.specs.declared.fault.Fault.TheVariants.{BadHeader}
use Rattle.als_record.specs.LogText.{header_bytes}
use Rattle.als_record.specs.Reading.{word_at, is_within}
use Rattle.als_record.specs.HeaderReading.{is_magic, read_header}
use Rattle.als_record.proofs.FieldLaws.{IsBytes, wide32, number_field, number_again}

abbrev Read : Type 0
Read = Result (Option LogHeader) Fault

abbrev found_pages : ℕ → Read
found_pages k = Ok (Some (record { pages = k }))

abbrev two : Bool → Bool → LogHeader → Read
two short good header = if short then Ok None else if not good then Err BadHeader else Ok (Some header)

two_found : (short good : Bool) (header h : LogHeader) → two short good header ≡ Ok (Some h) → (short ≡ false) × (good ≡ true) × (header ≡ h)
two_found true good header h e = absurd cc
two_found false false header h e = absurd cc
two_found false true header h e = (refl, refl, cc)

two_none : (short good : Bool) (header : LogHeader) → two short good header ≡ Ok None → short ≡ true
two_none true good header e = refl
two_none false false header e = absurd cc
two_none false true header e = absurd cc

two_pass : (short good : Bool) (header : LogHeader) → short ≡ false → good ≡ true → two short good header ≡ Ok (Some header)
two_pass short good header a b = rw (a, b) refl

join_header : (bytes a d8 b d12 c rest : List ℕ) → bytes ≡ a ++ d8 → d8 ≡ b ++ d12 → d12 ≡ c ++ rest → bytes ≡ ((a ++ b) ++ c) ++ rest
join_header bytes a d8 b d12 c rest e1 e2 e3 =
    e1 ∙ ap (λ (xs : List ℕ). a ++ xs) (e2 ∙ ap (λ (xs : List ℕ). b ++ xs) e3) ∙ sym (append_assoc a b (c ++ rest)) ∙ sym (append_assoc (a ++ b) c rest)

pub header_found : (bytes : List ℕ) (h : LogHeader) → IsBytes bytes → read_header bytes ≡ Ok (Some h) → (take 16 bytes ≡ header_bytes h.pages) × (1 ≤ h.pages) × (h.pages ≤ 4096)
unfolding read_header header_bytes
header_found bytes h fits e =
    let pages = word_at 8 bytes in
    let found : LogHeader = record { pages = pages } in
    let t = two_found (ltb (length bytes) 16) (is_magic (take 8 bytes) && is_within 1 4096 pages && eqb (word_at 12 bytes) 0) found h e in
    let long : 16 ≤ length bytes = ltb-false (length bytes) 16 t.0 in
    let outer = and_parts (is_magic (take 8 bytes) && is_within 1 4096 pages) (eqb (word_at 12 bytes) 0) t.1 in
    let inner = and_parts (is_magic (take 8 bytes)) (is_within 1 4096 pages) outer.0 in
    let range = and_parts (leb 1 pages) (leb pages 4096) inner.1 in
    let text : take 8 bytes ≡ codes "ALSLOG01" = (bytes_eq-Decides (take 8 bytes) (codes "ALSLOG01")).0 inner.0 in
    let zero : word_at 12 bytes ≡ 0 = eqb-true (word_at 12 bytes) 0 outer.1 in
    let last : drop 12 bytes ≡ to_be_bytes w32 0 ++ drop 16 bytes = number_field w32 (2 ^ 32) wide32 12 bytes fits (omega arith) ∙ ap (λ (k : ℕ). to_be_bytes w32 k ++ drop 16 bytes) zero in
    let front : bytes ≡ codes "ALSLOG01" ++ drop 8 bytes = sym (take-append-drop 8 bytes) ∙ ap (λ (xs : List ℕ). xs ++ drop 8 bytes) text in
    let joined = join_header bytes (codes "ALSLOG01") (drop 8 bytes) (to_be_bytes w32 pages) (drop 12 bytes) (to_be_bytes w32 0) (drop 16 bytes) front (number_field w32 (2 ^ 32) wide32 8 bytes fits (omega arith)) last in
    let whole : take 16 bytes ≡ header_bytes pages = ap (take 16) joined ∙ take_at (header_bytes pages) (drop 16 bytes) 16 refl in
    subst (λ (v : LogHeader). (take 16 bytes ≡ header_bytes v.pages) × (1 ≤ v.pages) × (v.pages ≤ 4096)) t.2 (whole, leb-true 1 pages range.0, leb-true pages 4096 range.1)

pub header_none : (bytes : List ℕ) → read_header bytes ≡ Ok None → length bytes < 16
unfolding read_header
header_none bytes e = ltb-true (length bytes) 16 (two_none (ltb (length bytes) 16) (is_magic (take 8 bytes) && is_within 1 4096 (word_at 8 bytes) && eqb (word_at 12 bytes) 0) (record { pages = word_at 8 bytes }) e)

pub length-header_bytes : (pages : ℕ) → length (header_bytes pages) ≡ 16
unfolding header_bytes
length-header_bytes pages = refl

-- a header that was written is read
pub header_again : (pages : ℕ) (rest : List ℕ) → 1 ≤ pages → pages ≤ 4096 → read_header (header_bytes pages ++ rest) ≡ Ok (Some (record { pages = pages }))
unfolding read_header header_bytes
header_again pages rest low high =
    let bytes = header_bytes pages ++ rest in
    let read : word_at 8 bytes ≡ pages = number_again w32 (2 ^ 32) wide32 8 bytes (0 ∷ 0 ∷ 0 ∷ 0 ∷ rest) pages (omega arith) refl in
    let long : ltb (length bytes) 16 ≡ false = le-ltb (length bytes) 16 (omega (arith, length-append (header_bytes pages) rest, length-header_bytes pages)) in
    let range : is_within 1 4096 (word_at 8 bytes) ≡ true = ap (is_within 1 4096) read ∙ and_from (leb 1 pages) (leb pages 4096) (le-leb 1 pages low) (le-leb pages 4096 high) in
    let good = and_from (is_magic (take 8 bytes) && is_within 1 4096 (word_at 8 bytes)) (eqb (word_at 12 bytes) 0) (and_from (is_magic (take 8 bytes)) (is_within 1 4096 (word_at 8 bytes)) refl range) refl in
    two_pass (ltb (length bytes) 16) (is_magic (take 8 bytes) && is_within 1 4096 (word_at 8 bytes) && eqb (word_at 12 bytes) 0) (record { pages = word_at 8 bytes }) long good
    ∙ ap (λ (k : ℕ). found_pages k) read

-- no header begins another one
pub one_header : (m n : ℕ) (x y : List ℕ) → m < 2 ^ 32 → n < 2 ^ 32 → header_bytes m ++ x ≡ header_bytes n ++ y → (m ≡ n) × (x ≡ y)
unfolding header_bytes
one_header m n x y small_m small_n e =
    let first : word_at 8 (header_bytes m ++ x) ≡ m = number_again w32 (2 ^ 32) wide32 8 (header_bytes m ++ x) (0 ∷ 0 ∷ 0 ∷ 0 ∷ x) m small_m refl in
    let second : word_at 8 (header_bytes n ++ y) ≡ n = number_again w32 (2 ^ 32) wide32 8 (header_bytes n ++ y) (0 ∷ 0 ∷ 0 ∷ 0 ∷ y) n small_n refl in
    let same : m ≡ n = sym first ∙ ap (word_at 8) e ∙ second in
    (same, ap (drop 16) e)

-- ---- what decode returns

pub given_header : (bytes : List ℕ) (result : Read) → IsBytes bytes → result ≡ read_header bytes
    → IfOk result (λ o. MatchOption o (length bytes < 16) (λ h. (take 16 bytes ≡ header_bytes h.pages) × (1 ≤ h.pages) × (h.pages ≤ 4096)))
given_header bytes (Err fault) fits e = tt
given_header bytes (Ok None) fits e = header_none bytes (sym e)
given_header bytes (Ok (Some h)) fits e = header_found bytes h fits (sym e)
