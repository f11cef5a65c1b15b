-- A record that is found is spelled so, and what is spelled so is found.
use Rattle.std.proofs.Common.{◌≡◌, ℕ, zero, suc, ◌+◌, ◌*◌, ◌^◌, ◌<◌, ◌≤◌, true, eqb, leb, List, [], ◌∷◌, ◌++◌, length, get_or, drop, Ok, refl, sym, ap, subst, ◌∙◌, append_assoc, arith}
use Rattle.std.specs.Prelude.{◌&&◌}
use Rattle.std.specs.List.{flat_map}
use Rattle.std.specs.Int.{w32, w64, to_be_bytes}
use Rattle.std.proofs.lemmas.Bool.{and_parts, and_from, leb-true, le-leb, eqb-true}
use Rattle.std.proofs.lemmas.List.{length-append, drop_more, nil_from_length}
use Rattle.als_record.specs.declared.record.Body.{Body}
use Rattle.als_record.specs.declared.record.Body.TheVariants.{Update, Compensation, Commit, Rollback, End, BeginCheckpoint, EndCheckpoint, Prepare}
use Rattle.als_record.specs.declared.record.Record.{Record}
use Rattle.als_record.specs.Spelling.{image_bytes, image_len, head, spelling, record_len, body_bytes, body_len, type_byte, transaction_row, page_row, IsBody, IsRecord}
use Rattle.als_record.specs.Reading.{word_at, long_at, size_at, type_at, is_size, is_type, is_within, is_reserved_zero, read_body}
use Rattle.als_record.proofs.FieldLaws.{IsBytes, wide32, wide64, number_field, number_again}
use Rattle.als_record.proofs.BodyLaws.{done, ok_is, update_found, update_again, compensation_found, compensation_again}
use Rattle.als_record.proofs.RowLaws.{checkpoint_found, checkpoint_again, length-transactions, length-pages}

-- ---- bodies

-- a length within two bounds
within : (low high n : ℕ) → is_within low high n ≡ true → (low ≤ n) × (n ≤ high)
within low high n e =
    let parts = and_parts (leb low n) (leb n high) e in
    (leb-true low n parts.0, leb-true n high parts.1)

is_within_of : (low high n : ℕ) → low ≤ n → n ≤ high → is_within low high n ≡ true
is_within_of low high n a b = and_from (leb low n) (leb n high) (le-leb low n a) (le-leb n high b)

-- what a body that was found is
pub record IsBodyOf (pages kind : ℕ) (bytes : List ℕ) (body : Body) : Type 0 where
  pub kind_is : type_byte body ≡ kind
  pub spelled : bytes ≡ body_bytes body
  pub len : length bytes ≡ body_len body
  pub fits : IsBody pages body

abbrev IsNone : Body → Type 0
IsNone body = ([] ≡ body_bytes body) × (0 ≡ body_len body)

-- a body of no bytes
none_found : (pages : ℕ) (made : Body) (bytes : List ℕ) (body : Body) → IsNone made → IsBody pages made → eqb (28 + length bytes) 28 ≡ true → done made ≡ Ok body → IsBodyOf pages (type_byte made) bytes body
none_found pages made bytes body none fits size e =
    let zero_len : length bytes ≡ 0 = let k : 28 + length bytes ≡ 28 = eqb-true (28 + length bytes) 28 size in omega arith in
    let nothing : bytes ≡ [] = nil_from_length bytes zero_len in
    subst (λ (v : Body). IsBodyOf pages (type_byte made) bytes v) (ok_is made body e) (record { kind_is = refl; spelled = nothing ∙ none.0; len = zero_len ∙ none.1; fits = fits })

from_parts : (pages kind : ℕ) (bytes : List ℕ) (body : Body) → (type_byte body ≡ kind) × (bytes ≡ body_bytes body) × (length bytes ≡ body_len body) × IsBody pages body → IsBodyOf pages kind bytes body
from_parts pages kind bytes body p = record { kind_is = p.0; spelled = p.1; len = p.2; fits = p.3 }

pub body_found : (pages kind : ℕ) (bytes : List ℕ) (body : Body) → IsBytes bytes → is_type kind ≡ true → is_size kind (28 + length bytes) ≡ true → read_body pages kind bytes ≡ Ok body → IsBodyOf pages kind bytes body
unfolding read_body body_bytes
body_found pages zero bytes body fits typed sized e = absurd cc
body_found pages (suc zero) bytes body fits typed sized e =
    let range = within 35 97 (28 + length bytes) sized in
    from_parts pages 1 bytes body (update_found pages bytes body fits (omega (arith, range.0)) e)
body_found pages (suc (suc zero)) bytes body fits typed sized e =
    let range = within 42 73 (28 + length bytes) sized in
    from_parts pages 2 bytes body (compensation_found pages bytes body fits (omega (arith, range.0)) e)
body_found pages (suc (suc (suc zero))) bytes body fits typed sized e = none_found pages Commit bytes body (refl, refl) tt sized e
body_found pages (suc (suc (suc (suc zero)))) bytes body fits typed sized e = none_found pages Rollback bytes body (refl, refl) tt sized e
body_found pages (suc (suc (suc (suc (suc zero))))) bytes body fits typed sized e = none_found pages End bytes body (refl, refl) tt sized e
body_found pages (suc (suc (suc (suc (suc (suc zero)))))) bytes body fits typed sized e = none_found pages BeginCheckpoint bytes body (refl, refl) tt sized e
body_found pages (suc (suc (suc (suc (suc (suc (suc zero))))))) bytes body fits typed sized e =
    let range = within 32 54560 (28 + length bytes) sized in
    from_parts pages 7 bytes body (checkpoint_found pages bytes body fits (omega (arith, range.0)) e)
body_found pages (suc (suc (suc (suc (suc (suc (suc (suc zero)))))))) bytes body fits typed sized e = none_found pages Prepare bytes body (refl, refl) tt sized e
body_found pages (suc (suc (suc (suc (suc (suc (suc (suc (suc kind))))))))) bytes body fits typed sized e =
    let range = within 1 8 (suc (suc (suc (suc (suc (suc (suc (suc (suc kind))))))))) typed in
    absurd (omega (arith, range.1))

pub body_again : (pages : ℕ) (body : Body) → IsBody pages body → read_body pages (type_byte body) (body_bytes body) ≡ Ok body
unfolding read_body
body_again pages (Update key before after) fits = update_again pages key before after fits.0 fits.1 fits.2
body_again pages (Compensation undo_next key after) fits = compensation_again pages undo_next key after fits.0 fits.1 fits.2
body_again pages Commit fits = refl
body_again pages Rollback fits = refl
body_again pages End fits = refl
body_again pages BeginCheckpoint fits = refl
body_again pages (EndCheckpoint transactions rows) fits = checkpoint_again transactions rows fits.0 fits.1 fits.2 fits.3
body_again pages Prepare fits = refl

-- each length that a type may have is one of a record
pub size_range : (kind size : ℕ) → is_type kind ≡ true → is_size kind size ≡ true → (28 ≤ size) × (size ≤ 54560)
size_range zero size typed sized = absurd cc
size_range (suc zero) size typed sized = let r = within 35 97 size sized in (omega (arith, r.0), omega (arith, r.1))
size_range (suc (suc zero)) size typed sized = let r = within 42 73 size sized in (omega (arith, r.0), omega (arith, r.1))
size_range (suc (suc (suc zero))) size typed sized = let r : size ≡ 28 = eqb-true size 28 sized in (omega arith, omega arith)
size_range (suc (suc (suc (suc zero)))) size typed sized = let r : size ≡ 28 = eqb-true size 28 sized in (omega arith, omega arith)
size_range (suc (suc (suc (suc (suc zero))))) size typed sized = let r : size ≡ 28 = eqb-true size 28 sized in (omega arith, omega arith)
size_range (suc (suc (suc (suc (suc (suc zero)))))) size typed sized = let r : size ≡ 28 = eqb-true size 28 sized in (omega arith, omega arith)
size_range (suc (suc (suc (suc (suc (suc (suc zero))))))) size typed sized = let r = within 32 54560 size sized in (omega (arith, r.0), omega (arith, r.1))
size_range (suc (suc (suc (suc (suc (suc (suc (suc zero)))))))) size typed sized = let r : size ≡ 28 = eqb-true size 28 sized in (omega arith, omega arith)
size_range (suc (suc (suc (suc (suc (suc (suc (suc (suc kind))))))))) size typed sized =
    let range = within 1 8 (suc (suc (suc (suc (suc (suc (suc (suc (suc kind))))))))) typed in
    absurd (omega (arith, range.1))

pub type_byte_is : (body : Body) → is_type (type_byte body) ≡ true
type_byte_is (Update key before after) = refl
type_byte_is (Compensation undo_next key after) = refl
type_byte_is Commit = refl
type_byte_is Rollback = refl
type_byte_is End = refl
type_byte_is BeginCheckpoint = refl
type_byte_is (EndCheckpoint transactions pages) = refl
type_byte_is Prepare = refl

-- each body that fits has a length that its type may have
pub body_size : (pages : ℕ) (body : Body) → IsBody pages body → is_size (type_byte body) (28 + body_len body) ≡ true
body_size pages (Update key before after) fits = is_within_of 35 97 (28 + (7 + image_len before + image_len after)) (omega arith) (omega (arith, fits.1.size, fits.2.size))
body_size pages (Compensation undo_next key after) fits = is_within_of 42 73 (28 + (14 + image_len after)) (omega arith) (omega (arith, fits.2.size))
body_size pages Commit fits = refl
body_size pages Rollback fits = refl
body_size pages End fits = refl
body_size pages BeginCheckpoint fits = refl
body_size pages (EndCheckpoint transactions rows) fits = is_within_of 32 54560 (28 + (4 + 21 * length transactions + 12 * length rows)) (omega arith) (omega (arith, fits.0, fits.1))
body_size pages Prepare fits = refl

-- ---- lengths

pub length-body_bytes : (body : Body) → length (body_bytes body) ≡ body_len body
unfolding body_bytes
length-body_bytes (Update key before after) = omega (arith, length-append (image_bytes before) (image_bytes after))
length-body_bytes (Compensation undo_next key after) = omega arith
length-body_bytes Commit = refl
length-body_bytes Rollback = refl
length-body_bytes End = refl
length-body_bytes BeginCheckpoint = refl
length-body_bytes (EndCheckpoint transactions pages) = omega (arith, length-append (flat_map transaction_row transactions) (flat_map page_row pages), length-transactions transactions, length-pages pages)
length-body_bytes Prepare = refl

pub length-head : (size kind lsn prev trans : ℕ) → length (head size kind lsn prev trans) ≡ 28
unfolding head
length-head size kind lsn prev trans = refl

-- the length of a record's bytes
pub length-spelling : (r : Record) → length (spelling r) ≡ record_len r
unfolding spelling record_len
length-spelling r = omega (arith, length-append (head (28 + body_len r.body) (type_byte r.body) r.lsn.0 r.prev.0 r.trans.0) (body_bytes r.body), length-head (28 + body_len r.body) (type_byte r.body) r.lsn.0 r.prev.0 r.trans.0, length-body_bytes r.body)

-- no record is shorter than its head
pub record_len-low : (r : Record) → 28 ≤ record_len r
unfolding record_len
record_len-low r = omega arith

-- none is longer than the longest end_chkpt
pub record_len-high : (pages : ℕ) (r : Record) → IsRecord pages r → record_len r ≤ 54560
unfolding record_len
record_len-high pages r is = (size_range (type_byte r.body) (28 + body_len r.body) (type_byte_is r.body) (body_size pages r.body is.body)).1

-- ---- heads

join_head : (bytes s d4 d5 d6 d7 d8 l d16 p d24 t rest : List ℕ) (k x y z : ℕ) → bytes ≡ s ++ d4 → d4 ≡ k ∷ d5 → d5 ≡ x ∷ d6 → d6 ≡ y ∷ d7 → d7 ≡ z ∷ d8 → d8 ≡ l ++ d16 → d16 ≡ p ++ d24 → d24 ≡ t ++ rest
    → bytes ≡ ((((s ++ (k ∷ x ∷ y ∷ z ∷ [])) ++ l) ++ p) ++ t) ++ rest
join_head bytes s d4 d5 d6 d7 d8 l d16 p d24 t rest k x y z e1 e2 e3 e4 e5 e6 e7 e8 =
    let numbers : d8 ≡ l ++ (p ++ (t ++ rest)) = e6 ∙ ap (λ (xs : List ℕ). l ++ xs) (e7 ∙ ap (λ (xs : List ℕ). p ++ xs) e8) in
    let four : d4 ≡ k ∷ x ∷ y ∷ z ∷ (l ++ (p ++ (t ++ rest))) = e2 ∙ ap (λ (xs : List ℕ). k ∷ xs) (e3 ∙ ap (λ (xs : List ℕ). x ∷ xs) (e4 ∙ ap (λ (xs : List ℕ). y ∷ xs) (e5 ∙ ap (λ (xs : List ℕ). z ∷ xs) numbers))) in
    let kxyz : List ℕ = k ∷ x ∷ y ∷ z ∷ [] in
    e1 ∙ ap (λ (xs : List ℕ). s ++ xs) four ∙ sym (append_assoc s kxyz (l ++ (p ++ (t ++ rest)))) ∙ sym (append_assoc (s ++ kxyz) l (p ++ (t ++ rest))) ∙ sym (append_assoc ((s ++ kxyz) ++ l) p (t ++ rest)) ∙ sym (append_assoc (((s ++ kxyz) ++ l) ++ p) t rest)

pub head_found : (bytes : List ℕ) → IsBytes bytes → 28 ≤ length bytes → is_reserved_zero bytes ≡ true → bytes ≡ head (size_at bytes) (type_at bytes) (long_at 8 bytes) (long_at 16 bytes) (word_at 24 bytes) ++ drop 28 bytes
unfolding head
head_found bytes fits long zeros =
    let outer = and_parts (eqb (get_or bytes 5 0) 0 && eqb (get_or bytes 6 0) 0) (eqb (get_or bytes 7 0) 0) zeros in
    let inner = and_parts (eqb (get_or bytes 5 0) 0) (eqb (get_or bytes 6 0) 0) outer.0 in
    let five : get_or bytes 5 0 ≡ 0 = eqb-true (get_or bytes 5 0) 0 inner.0 in
    let six : get_or bytes 6 0 ≡ 0 = eqb-true (get_or bytes 6 0) 0 inner.1 in
    let seven : get_or bytes 7 0 ≡ 0 = eqb-true (get_or bytes 7 0) 0 outer.1 in
    join_head bytes (to_be_bytes w32 (word_at 0 bytes)) (drop 4 bytes) (drop 5 bytes) (drop 6 bytes) (drop 7 bytes) (drop 8 bytes) (to_be_bytes w64 (long_at 8 bytes)) (drop 16 bytes) (to_be_bytes w64 (long_at 16 bytes)) (drop 24 bytes) (to_be_bytes w32 (word_at 24 bytes)) (drop 28 bytes) (get_or bytes 4 0) 0 0 0
    (number_field w32 (2 ^ 32) wide32 0 bytes fits (omega arith)) (drop_more bytes 4 0 (omega arith))
    (drop_more bytes 5 0 (omega arith) ∙ ap (λ (b : ℕ). b ∷ drop 6 bytes) five) (drop_more bytes 6 0 (omega arith) ∙ ap (λ (b : ℕ). b ∷ drop 7 bytes) six) (drop_more bytes 7 0 (omega arith) ∙ ap (λ (b : ℕ). b ∷ drop 8 bytes) seven)
    (number_field w64 (2 ^ 64) wide64 8 bytes fits (omega arith)) (number_field w64 (2 ^ 64) wide64 16 bytes fits (omega arith)) (number_field w32 (2 ^ 32) wide32 24 bytes fits (omega arith))

-- what a head that was written is read as
pub record IsHeadOf (size kind lsn prev trans : ℕ) (bytes : List ℕ) : Type 0 where
  pub size_is : size_at bytes ≡ size
  pub kind_is : type_at bytes ≡ kind
  pub zeros : is_reserved_zero bytes ≡ true
  pub lsn_is : long_at 8 bytes ≡ lsn
  pub prev_is : long_at 16 bytes ≡ prev
  pub trans_is : word_at 24 bytes ≡ trans

pub head_again : (size kind lsn prev trans : ℕ) (rest : List ℕ) → size < 2 ^ 32 → lsn < 2 ^ 64 → prev < 2 ^ 64 → trans < 2 ^ 32 → IsHeadOf size kind lsn prev trans (head size kind lsn prev trans ++ rest)
unfolding head
head_again size kind lsn prev trans rest a b c d =
    let bytes = head size kind lsn prev trans ++ rest in
    record {
      size_is = number_again w32 (2 ^ 32) wide32 0 bytes (drop 4 bytes) size a refl;
      kind_is = refl;
      zeros = refl;
      lsn_is = number_again w64 (2 ^ 64) wide64 8 bytes (drop 16 bytes) lsn b refl;
      prev_is = number_again w64 (2 ^ 64) wide64 16 bytes (drop 24 bytes) prev c refl;
      trans_is = number_again w32 (2 ^ 32) wide32 24 bytes rest trans d refl;
    }
