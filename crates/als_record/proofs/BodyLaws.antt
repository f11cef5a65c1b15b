-- A body that is read is the body that was written, and what was written is read again.
use Rattle.std.proofs.Common.{◌≡◌, ℕ, ◌+◌, ◌^◌, ◌<◌, ◌≤◌, Bool, true, false, eqb, leb, ltb, List, [], ◌∷◌, ◌++◌, length, get_or, take, drop, Result, Ok, Err, refl, sym, ap, subst, ◌∙◌, append_assoc, arith}
use Rattle.std.specs.Prelude.{not, ◌&&◌, if◌then◌else◌}
use Rattle.std.specs.Int.{w32, w64, to_be_bytes}
use Rattle.std.proofs.lemmas.Bool.{and_parts, and_from, ltb-true, lt-ltb, leb-true, le-leb, eqb-true, eq-eqb}
use Rattle.std.proofs.lemmas.List.{take_at, drop_at, take-append-drop, length-append, length-take, length-drop, drop_more}
use Rattle.als_record.specs.declared.key.Key.{Key}
use Rattle.als_record.specs.declared.lsn.Lsn.{Lsn}
use Rattle.als_record.specs.declared.record.Body.{Body}
use Rattle.als_record.specs.declared.record.Body.TheVariants.{Update, Compensation}
use Rattle.als_record.specs.declared.fault.Fault.{Fault}
use Rattle.als_record.specs.declared.fault.Fault.TheVariants.{BadLength, BadKey, BadValue}
use Rattle.als_record.specs.Spelling.{Image, length_byte, image_bytes, image_len, body_bytes, body_len, type_byte, IsKey, IsImage, IsBody}
use Rattle.als_record.specs.Reading.{word_at, long_at, key_at, is_key, is_length_byte, len_of_byte, image_of, read_update, read_compensation}
use Rattle.als_record.proofs.FieldLaws.{IsBytes, IsBytes-drop, IsBytes-take, wide32, wide64, number_field, number_below, number_again, image_found, image_again}

abbrev pub done : {A : Type 0} → A → Result A Fault
done x = Ok x

pub ok_is : {A : Type 0} (x y : A) → done x ≡ done y → x ≡ y
ok_is x y e = cc

-- three tests in order, and what stands behind them
abbrev pub three : {A : Type 0} → Bool → Bool → Bool → Result A Fault → Result A Fault
three a b c read = if not a then Err BadKey else if not b then Err BadValue else if not c then Err BadLength else read

pub three_passed : {A : Type 0} (a b c : Bool) (read : Result A Fault) (y : A) → three a b c read ≡ Ok y → (a ≡ true) × (b ≡ true) × (c ≡ true) × (read ≡ Ok y)
three_passed true true true read y e = (refl, refl, refl, e)
three_passed true true false read y e = absurd cc
three_passed true false c read y e = absurd cc
three_passed false b c read y e = absurd cc

pub three_pass : {A : Type 0} (a b c : Bool) (read : Result A Fault) → a ≡ true → b ≡ true → c ≡ true → three a b c read ≡ read
three_pass a b c read p q r = rw (p, q, r) refl

-- ---- keys

pub key_found : (pages i : ℕ) (bytes : List ℕ) → IsBytes bytes → is_key pages (key_at i bytes) ≡ true → IsKey pages (key_at i bytes)
key_found pages i bytes fits e =
    let parts = and_parts (ltb (word_at i bytes) pages) (leb (get_or bytes (i + 4) 0) 14) e in
    record {
      page = ltb-true (word_at i bytes) pages parts.0;
      width = number_below w32 (2 ^ 32) wide32 i bytes fits;
      slot = leb-true (get_or bytes (i + 4) 0) 14 parts.1;
    }

pub key_again : (pages : ℕ) (key : Key) → IsKey pages key → is_key pages key ≡ true
key_again pages key is = and_from (ltb key.page pages) (leb key.slot 14) (lt-ltb key.page pages is.page) (le-leb key.slot 14 is.slot)

-- ---- updates

join_update : (body a d4 d5 d6 d7 x y : List ℕ) (s p q : ℕ) → body ≡ a ++ d4 → d4 ≡ s ∷ d5 → d5 ≡ p ∷ d6 → d6 ≡ q ∷ d7 → d7 ≡ x ++ y → body ≡ ((a ++ (s ∷ p ∷ q ∷ [])) ++ x) ++ y
join_update body a d4 d5 d6 d7 x y s p q e1 e2 e3 e4 e5 =
    let tail : d4 ≡ s ∷ p ∷ q ∷ (x ++ y) = e2 ∙ ap (λ (xs : List ℕ). s ∷ xs) (e3 ∙ ap (λ (xs : List ℕ). p ∷ xs) (e4 ∙ ap (λ (xs : List ℕ). q ∷ xs) e5)) in
    e1 ∙ ap (λ (xs : List ℕ). a ++ xs) tail ∙ sym (append_assoc a (s ∷ p ∷ q ∷ []) (x ++ y)) ∙ sym (append_assoc (a ++ (s ∷ p ∷ q ∷ [])) x y)

abbrev IsUpdate : ℕ → List ℕ → Body → Type 0
IsUpdate pages bytes body = (bytes ≡ body_bytes body) × (length bytes ≡ body_len body) × IsBody pages body

pub update_found : (pages : ℕ) (bytes : List ℕ) (body : Body) → IsBytes bytes → 7 ≤ length bytes → read_update pages bytes ≡ Ok body
    → (type_byte body ≡ 1) × (bytes ≡ body_bytes body) × (length bytes ≡ body_len body) × IsBody pages body
unfolding read_update body_bytes
update_found pages bytes body fits long e =
    let p = get_or bytes 5 0 in
    let q = get_or bytes 6 0 in
    let x = take (len_of_byte p) (drop 7 bytes) in
    let y = drop (len_of_byte p) (drop 7 bytes) in
    let made : Body = Update (key_at 0 bytes) (image_of p x) (image_of q y) in
    let t = three_passed (is_key pages (key_at 0 bytes)) (is_length_byte p && is_length_byte q) (eqb (length bytes) (7 + len_of_byte p + len_of_byte q)) (Ok made) body e in
    let lengths = and_parts (is_length_byte p) (is_length_byte q) t.1 in
    let size : length bytes ≡ 7 + len_of_byte p + len_of_byte q = eqb-true (length bytes) (7 + len_of_byte p + len_of_byte q) t.2 in
    let x_len : length x ≡ len_of_byte p = omega (arith, length-take (len_of_byte p) (drop 7 bytes), length-drop 7 bytes) in
    let y_len : length y ≡ len_of_byte q = omega (arith, length-drop (len_of_byte p) (drop 7 bytes), length-drop 7 bytes) in
    let rest_fits = IsBytes-drop 7 bytes fits in
    let before = image_found p x lengths.0 x_len (IsBytes-take (len_of_byte p) (drop 7 bytes) rest_fits) in
    let after = image_found q y lengths.1 y_len (IsBytes-drop (len_of_byte p) (drop 7 bytes) rest_fits) in
    let page = word_at 0 bytes in
    let slot = get_or bytes 4 0 in
    let four : drop 4 bytes ≡ slot ∷ drop 5 bytes = drop_more bytes 4 0 (omega arith) in
    let five : drop 5 bytes ≡ p ∷ drop 6 bytes = drop_more bytes 5 0 (omega arith) in
    let six : drop 6 bytes ≡ q ∷ drop 7 bytes = drop_more bytes 6 0 (omega arith) in
    let joined = join_update bytes (to_be_bytes w32 page) (drop 4 bytes) (drop 5 bytes) (drop 6 bytes) (drop 7 bytes) x y slot p q (number_field w32 (2 ^ 32) wide32 0 bytes fits (omega arith)) four five six (sym (take-append-drop (len_of_byte p) (drop 7 bytes))) in
    let spell : ℕ → ℕ → List ℕ → List ℕ → List ℕ = λ b c xs ys. ((to_be_bytes w32 page ++ (slot ∷ b ∷ c ∷ [])) ++ xs) ++ ys in
    let b = image_of p x in
    let a = image_of q y in
    let whole : bytes ≡ spell (length_byte b) (length_byte a) (image_bytes b) (image_bytes a) =
    joined ∙ ap (λ (k : ℕ). spell k q x y) (sym before.byte_is) ∙ ap (λ (k : ℕ). spell (length_byte b) k x y) (sym after.byte_is)
    ∙ ap (λ (xs : List ℕ). spell (length_byte b) (length_byte a) xs y) (sym before.bytes_are) ∙ ap (λ (xs : List ℕ). spell (length_byte b) (length_byte a) (image_bytes b) xs) (sym after.bytes_are) in
    let long_as : length bytes ≡ 7 + image_len b + image_len a = omega (arith, ap length before.bytes_are, ap length after.bytes_are) in
    subst (λ (v : Body). (type_byte v ≡ 1) × (bytes ≡ body_bytes v) × (length bytes ≡ body_len v) × IsBody pages v) (ok_is made body t.3)
    (refl, whole, long_as, (key_found pages 0 bytes fits t.0, before.fits, after.fits))

-- reading from the fields of an update
abbrev update_of : ℕ → Key → ℕ → ℕ → ℕ → List ℕ → Result Body Fault
update_of pages key p q len rest = three (is_key pages key) (is_length_byte p && is_length_byte q) (eqb len (7 + len_of_byte p + len_of_byte q)) (Ok (Update key (image_of p (take (len_of_byte p) rest)) (image_of q (drop (len_of_byte p) rest))))

update_made : (pages : ℕ) (key : Key) (before after : Image) → IsKey pages key → IsImage before → IsImage after
    → update_of pages key (length_byte before) (length_byte after) (7 + image_len before + image_len after) (image_bytes before ++ image_bytes after) ≡ Ok (Update key before after)
update_made pages key before after is_key_of b a =
    let old = image_again before b in
    let new = image_again after a in
    let p = length_byte before in
    let q = length_byte after in
    let rest = image_bytes before ++ image_bytes after in
    let first : take (len_of_byte p) rest ≡ image_bytes before = take_at (image_bytes before) (image_bytes after) (len_of_byte p) (sym old.len) in
    let second : drop (len_of_byte p) rest ≡ image_bytes after = drop_at (image_bytes before) (image_bytes after) (len_of_byte p) (sym old.len) in
    let size : 7 + image_len before + image_len after ≡ 7 + len_of_byte p + len_of_byte q = omega (arith, old.len, new.len) in
    three_pass (is_key pages key) (is_length_byte p && is_length_byte q) (eqb (7 + image_len before + image_len after) (7 + len_of_byte p + len_of_byte q)) (Ok (Update key (image_of p (take (len_of_byte p) rest)) (image_of q (drop (len_of_byte p) rest))))
    (key_again pages key is_key_of) (and_from (is_length_byte p) (is_length_byte q) old.is_byte new.is_byte) (eq-eqb (7 + image_len before + image_len after) (7 + len_of_byte p + len_of_byte q) size)
    ∙ ap (λ (xs : List ℕ). done (Update key (image_of p xs) (image_of q (drop (len_of_byte p) rest)))) first
    ∙ ap (λ (xs : List ℕ). done (Update key (image_of p (image_bytes before)) (image_of q xs))) second
    ∙ ap (λ (i : Image). done (Update key i (image_of q (image_bytes after)))) old.read
    ∙ ap (λ (i : Image). done (Update key before i)) new.read

pub update_again : (pages : ℕ) (key : Key) (before after : Image) → IsKey pages key → IsImage before → IsImage after
    → read_update pages (body_bytes (Update key before after)) ≡ Ok (Update key before after)
unfolding read_update body_bytes
update_again pages key before after is_key_of b a =
    let p = length_byte before in
    let q = length_byte after in
    let rest = image_bytes before ++ image_bytes after in
    let bytes = body_bytes (Update key before after) in
    let page : word_at 0 bytes ≡ key.page = number_again w32 (2 ^ 32) wide32 0 bytes (key.slot ∷ p ∷ q ∷ rest) key.page is_key_of.width refl in
    let len : length bytes ≡ 7 + image_len before + image_len after = omega (arith, length-append (image_bytes before) (image_bytes after)) in
    ap (λ (k : ℕ). update_of pages (record { page = k; slot = key.slot }) p q (length bytes) rest) page
    ∙ ap (λ (k : ℕ). update_of pages key p q k rest) len
    ∙ update_made pages key before after is_key_of b a

-- ---- compensations

join_compensation : (body u a d8 d12 d13 d14 : List ℕ) (s q : ℕ) → body ≡ u ++ d8 → d8 ≡ a ++ d12 → d12 ≡ s ∷ d13 → d13 ≡ q ∷ d14 → body ≡ ((u ++ a) ++ (s ∷ q ∷ [])) ++ d14
join_compensation body u a d8 d12 d13 d14 s q e1 e2 e3 e4 =
    let tail : d12 ≡ s ∷ q ∷ d14 = e3 ∙ ap (λ (xs : List ℕ). s ∷ xs) e4 in
    e1 ∙ ap (λ (xs : List ℕ). u ++ xs) (e2 ∙ ap (λ (xs : List ℕ). a ++ xs) tail) ∙ sym (append_assoc u a (s ∷ q ∷ d14)) ∙ sym (append_assoc (u ++ a) (s ∷ q ∷ []) d14)

pub compensation_found : (pages : ℕ) (bytes : List ℕ) (body : Body) → IsBytes bytes → 14 ≤ length bytes → read_compensation pages bytes ≡ Ok body
    → (type_byte body ≡ 2) × (bytes ≡ body_bytes body) × (length bytes ≡ body_len body) × IsBody pages body
unfolding read_compensation body_bytes
compensation_found pages bytes body fits long e =
    let q = get_or bytes 13 0 in
    let y = drop 14 bytes in
    let made : Body = Compensation (record { 0 = long_at 0 bytes }) (key_at 8 bytes) (image_of q y) in
    let t = three_passed (is_key pages (key_at 8 bytes)) (is_length_byte q) (eqb (length bytes) (14 + len_of_byte q)) (Ok made) body e in
    let size : length bytes ≡ 14 + len_of_byte q = eqb-true (length bytes) (14 + len_of_byte q) t.2 in
    let y_len : length y ≡ len_of_byte q = omega (arith, length-drop 14 bytes) in
    let after = image_found q y t.1 y_len (IsBytes-drop 14 bytes fits) in
    let next = long_at 0 bytes in
    let page = word_at 8 bytes in
    let slot = get_or bytes 12 0 in
    let twelve : drop 12 bytes ≡ slot ∷ drop 13 bytes = drop_more bytes 12 0 (omega arith) in
    let thirteen : drop 13 bytes ≡ q ∷ drop 14 bytes = drop_more bytes 13 0 (omega arith) in
    let joined = join_compensation bytes (to_be_bytes w64 next) (to_be_bytes w32 page) (drop 8 bytes) (drop 12 bytes) (drop 13 bytes) (drop 14 bytes) slot q (number_field w64 (2 ^ 64) wide64 0 bytes fits (omega arith)) (number_field w32 (2 ^ 32) wide32 8 bytes fits (omega arith)) twelve thirteen in
    let spell : ℕ → List ℕ → List ℕ = λ c ys. ((to_be_bytes w64 next ++ to_be_bytes w32 page) ++ (slot ∷ c ∷ [])) ++ ys in
    let a = image_of q y in
    let whole : bytes ≡ spell (length_byte a) (image_bytes a) = joined ∙ ap (λ (k : ℕ). spell k y) (sym after.byte_is) ∙ ap (λ (xs : List ℕ). spell (length_byte a) xs) (sym after.bytes_are) in
    let long_as : length bytes ≡ 14 + image_len a = omega (arith, ap length after.bytes_are) in
    subst (λ (v : Body). (type_byte v ≡ 2) × (bytes ≡ body_bytes v) × (length bytes ≡ body_len v) × IsBody pages v) (ok_is made body t.3)
    (refl, whole, long_as, (number_below w64 (2 ^ 64) wide64 0 bytes fits, key_found pages 8 bytes fits t.0, after.fits))

-- reading from the fields of a compensation
abbrev compensation_of : ℕ → Lsn → Key → ℕ → ℕ → List ℕ → Result Body Fault
compensation_of pages next key q len rest = three (is_key pages key) (is_length_byte q) (eqb len (14 + len_of_byte q)) (Ok (Compensation next key (image_of q rest)))

compensation_made : (pages : ℕ) (next : Lsn) (key : Key) (after : Image) → IsKey pages key → IsImage after
    → compensation_of pages next key (length_byte after) (14 + image_len after) (image_bytes after) ≡ Ok (Compensation next key after)
compensation_made pages next key after is_key_of a =
    let new = image_again after a in
    let q = length_byte after in
    let size : 14 + image_len after ≡ 14 + len_of_byte q = omega (arith, new.len) in
    three_pass (is_key pages key) (is_length_byte q) (eqb (14 + image_len after) (14 + len_of_byte q)) (Ok (Compensation next key (image_of q (image_bytes after))))
    (key_again pages key is_key_of) new.is_byte (eq-eqb (14 + image_len after) (14 + len_of_byte q) size)
    ∙ ap (λ (i : Image). done (Compensation next key i)) new.read

pub compensation_again : (pages : ℕ) (next : Lsn) (key : Key) (after : Image) → next.0 < 2 ^ 64 → IsKey pages key → IsImage after
    → read_compensation pages (body_bytes (Compensation next key after)) ≡ Ok (Compensation next key after)
unfolding read_compensation body_bytes
compensation_again pages next key after wide is_key_of a =
    let q = length_byte after in
    let rest = image_bytes after in
    let bytes = body_bytes (Compensation next key after) in
    let behind : List ℕ = key.slot ∷ q ∷ rest in
    let undo_next : long_at 0 bytes ≡ next.0 = number_again w64 (2 ^ 64) wide64 0 bytes (to_be_bytes w32 key.page ++ behind) next.0 wide refl in
    let page : word_at 8 bytes ≡ key.page = number_again w32 (2 ^ 32) wide32 8 bytes behind key.page is_key_of.width refl in
    let len : length bytes ≡ 14 + image_len after = omega arith in
    ap (λ (k : ℕ). compensation_of pages (record { 0 = k }) (record { page = word_at 8 bytes; slot = key.slot }) q (length bytes) rest) undo_next
    ∙ ap (λ (k : ℕ). compensation_of pages next (record { page = k; slot = key.slot }) q (length bytes) rest) page
    ∙ ap (λ (k : ℕ). compensation_of pages next key q k rest) len
    ∙ compensation_made pages next key after is_key_of a
