-- The rows of an end_chkpt that are read are those that were written, and what was written is read again.
use Rattle.std.proofs.Common.{◌≡◌, ℕ, zero, suc, ◌+◌, ◌*◌, ◌^◌, ◌≤◌, Bool, true, false, eqb, leb, List, [], ◌∷◌, ◌++◌, length, get_or, drop, Result, Ok, Err, refl, sym, ap, subst, ◌∙◌, append_assoc, arith}
use Rattle.std.specs.Prelude.{not, ◌&&◌, if◌then◌else◌}
use Rattle.std.specs.List.{flat_map, AllByRecursion}
use Rattle.std.specs.Int.{w16, w32, w64, to_be_bytes}
use Rattle.std.proofs.lemmas.Bool.{and_parts, and_from, leb-true, le-leb, eqb-true, eq-eqb}
use Rattle.std.proofs.lemmas.List.{drop_at, length-append, length-drop, drop_more, drop_all, append-nil, drop-drop}
use Rattle.std.proofs.lemmas.List.Concat.{flat_map-cons}
use Rattle.als_record.specs.declared.rows.LoggedTransaction.{LoggedTransaction}
use Rattle.als_record.specs.declared.rows.LoggedPage.{LoggedPage}
use Rattle.als_record.specs.declared.record.Body.{Body}
use Rattle.als_record.specs.declared.record.Body.TheVariants.{EndCheckpoint}
use Rattle.als_record.specs.declared.fault.Fault.{Fault}
use Rattle.als_record.specs.declared.fault.Fault.TheVariants.{BadLength}
use Rattle.als_record.specs.Spelling.{body_bytes, body_len, type_byte, transaction_row, page_row, IsLoggedTransaction, IsLoggedPage, IsBody}
use Rattle.als_record.specs.Reading.{half_at, word_at, long_at, transaction_at, transactions_at, page_row_at, pages_at, read_checkpoint}
use Rattle.als_record.proofs.FieldLaws.{IsBytes, IsBytes-drop, wide16, wide32, wide64, number_field, number_below, number_again}
use Rattle.als_record.proofs.BodyLaws.{done, ok_is}

-- ---- lengths

pub length-transaction_row : (t : LoggedTransaction) → length (transaction_row t) ≡ 21
unfolding transaction_row
length-transaction_row t = refl

pub length-page_row : (p : LoggedPage) → length (page_row p) ≡ 12
unfolding page_row
length-page_row p = refl

pub length-transactions : (rows : List LoggedTransaction) → length (flat_map transaction_row rows) ≡ 21 * length rows
length-transactions [] = refl
length-transactions (t ∷ rows) = ap length (flat_map-cons transaction_row t rows) ∙ length-append (transaction_row t) (flat_map transaction_row rows) ∙ omega (arith, length-transaction_row t, length-transactions rows)

pub length-pages : (rows : List LoggedPage) → length (flat_map page_row rows) ≡ 12 * length rows
length-pages [] = refl
length-pages (p ∷ rows) = ap length (flat_map-cons page_row p rows) ∙ length-append (page_row p) (flat_map page_row rows) ∙ omega (arith, length-page_row p, length-pages rows)

-- ---- one row

join_transaction : (bytes a d4 d5 b d13 c rest : List ℕ) (s : ℕ) → bytes ≡ a ++ d4 → d4 ≡ s ∷ d5 → d5 ≡ b ++ d13 → d13 ≡ c ++ rest → bytes ≡ (((a ++ (s ∷ [])) ++ b) ++ c) ++ rest
join_transaction bytes a d4 d5 b d13 c rest s e1 e2 e3 e4 =
    let tail : d4 ≡ s ∷ (b ++ (c ++ rest)) = e2 ∙ ap (λ (xs : List ℕ). s ∷ xs) (e3 ∙ ap (λ (xs : List ℕ). b ++ xs) e4) in
    e1 ∙ ap (λ (xs : List ℕ). a ++ xs) tail ∙ sym (append_assoc a (s ∷ []) (b ++ (c ++ rest))) ∙ sym (append_assoc (a ++ (s ∷ [])) b (c ++ rest)) ∙ sym (append_assoc ((a ++ (s ∷ [])) ++ b) c rest)

transaction_found : (bytes : List ℕ) → IsBytes bytes → 21 ≤ length bytes → bytes ≡ transaction_row (transaction_at bytes) ++ drop 21 bytes
unfolding transaction_row
transaction_found bytes fits long =
    join_transaction bytes (to_be_bytes w32 (word_at 0 bytes)) (drop 4 bytes) (drop 5 bytes) (to_be_bytes w64 (long_at 5 bytes)) (drop 13 bytes) (to_be_bytes w64 (long_at 13 bytes)) (drop 21 bytes) (get_or bytes 4 0)
    (number_field w32 (2 ^ 32) wide32 0 bytes fits (omega arith)) (drop_more bytes 4 0 (omega arith)) (number_field w64 (2 ^ 64) wide64 5 bytes fits (omega arith)) (number_field w64 (2 ^ 64) wide64 13 bytes fits (omega arith))

transaction_fits : (bytes : List ℕ) → IsBytes bytes → IsLoggedTransaction (transaction_at bytes)
transaction_fits bytes fits = record {
  trans = number_below w32 (2 ^ 32) wide32 0 bytes fits;
  state = fits 4;
  last = number_below w64 (2 ^ 64) wide64 5 bytes fits;
  undo_next = number_below w64 (2 ^ 64) wide64 13 bytes fits;
}

transaction_again : (t : LoggedTransaction) (rest : List ℕ) → IsLoggedTransaction t → transaction_at (transaction_row t ++ rest) ≡ t
unfolding transaction_row
transaction_again t rest is =
    let bytes = transaction_row t ++ rest in
    let trans : word_at 0 bytes ≡ t.trans.0 = number_again w32 (2 ^ 32) wide32 0 bytes ((t.state ∷ to_be_bytes w64 t.last.0) ++ (to_be_bytes w64 t.undo_next.0 ++ rest)) t.trans.0 is.trans refl in
    let last : long_at 5 bytes ≡ t.last.0 = number_again w64 (2 ^ 64) wide64 5 bytes (to_be_bytes w64 t.undo_next.0 ++ rest) t.last.0 is.last refl in
    let undo_next : long_at 13 bytes ≡ t.undo_next.0 = number_again w64 (2 ^ 64) wide64 13 bytes rest t.undo_next.0 is.undo_next refl in
    let made : ℕ → ℕ → ℕ → LoggedTransaction = λ a b c. record { trans = record { 0 = a }; state = t.state; last = record { 0 = b }; undo_next = record { 0 = c } } in
    ap (λ (k : ℕ). made k (long_at 5 bytes) (long_at 13 bytes)) trans ∙ ap (λ (k : ℕ). made t.trans.0 k (long_at 13 bytes)) last ∙ ap (λ (k : ℕ). made t.trans.0 t.last.0 k) undo_next

join_page : (bytes a d4 b rest : List ℕ) → bytes ≡ a ++ d4 → d4 ≡ b ++ rest → bytes ≡ (a ++ b) ++ rest
join_page bytes a d4 b rest e1 e2 = e1 ∙ ap (λ (xs : List ℕ). a ++ xs) e2 ∙ sym (append_assoc a b rest)

page_found : (bytes : List ℕ) → IsBytes bytes → 12 ≤ length bytes → bytes ≡ page_row (page_row_at bytes) ++ drop 12 bytes
unfolding page_row
page_found bytes fits long =
    join_page bytes (to_be_bytes w32 (word_at 0 bytes)) (drop 4 bytes) (to_be_bytes w64 (long_at 4 bytes)) (drop 12 bytes)
    (number_field w32 (2 ^ 32) wide32 0 bytes fits (omega arith)) (number_field w64 (2 ^ 64) wide64 4 bytes fits (omega arith))

page_again : (p : LoggedPage) (rest : List ℕ) → IsLoggedPage p → page_row_at (page_row p ++ rest) ≡ p
unfolding page_row
page_again p rest is =
    let bytes = page_row p ++ rest in
    let page : word_at 0 bytes ≡ p.page = number_again w32 (2 ^ 32) wide32 0 bytes (to_be_bytes w64 p.rec_lsn.0 ++ rest) p.page is.page refl in
    let rec_lsn : long_at 4 bytes ≡ p.rec_lsn.0 = number_again w64 (2 ^ 64) wide64 4 bytes rest p.rec_lsn.0 is.rec_lsn refl in
    let made : ℕ → ℕ → LoggedPage = λ a b. record { page = a; rec_lsn = record { 0 = b } } in
    ap (λ (k : ℕ). made k (long_at 4 bytes)) page ∙ ap (λ (k : ℕ). made p.page k) rec_lsn

-- ---- many rows

join_rows : (bytes first d rows rest : List ℕ) → bytes ≡ first ++ d → d ≡ rows ++ rest → bytes ≡ (first ++ rows) ++ rest
join_rows = join_page

pub record IsRowsOf {Row : Type 0} (row : Row → List ℕ) (Fits : Row → Type 0) (n size : ℕ) (bytes : List ℕ) (rows : List Row) : Type 0 where
  pub spelled : bytes ≡ flat_map row rows ++ drop (size * n) bytes
  pub count : length rows ≡ n
  pub fit : AllByRecursion Fits rows

pub transactions_found : (n : ℕ) (bytes : List ℕ) → IsBytes bytes → 21 * n ≤ length bytes → IsRowsOf transaction_row IsLoggedTransaction n 21 bytes (transactions_at n bytes)
unfolding transactions_at
transactions_found zero bytes fits long = record { spelled = refl; count = refl; fit = tt }
transactions_found (suc n) bytes fits long =
    let rest = drop 21 bytes in
    let others = transactions_found n rest (IsBytes-drop 21 bytes fits) (omega (arith, length-drop 21 bytes)) in
    let first : bytes ≡ transaction_row (transaction_at bytes) ++ rest = transaction_found bytes fits (omega arith) in
    let behind : drop (21 * n) rest ≡ drop (21 * suc n) bytes = drop-drop (21 * n) 21 bytes ∙ ap (λ (k : ℕ). drop k bytes) (omega arith) in
    let joined = join_rows bytes (transaction_row (transaction_at bytes)) rest (flat_map transaction_row (transactions_at n rest)) (drop (21 * n) rest) first others.spelled in
    record {
      spelled = joined ∙ ap (λ (xs : List ℕ). (transaction_row (transaction_at bytes) ++ flat_map transaction_row (transactions_at n rest)) ++ xs) behind ∙ ap (λ (xs : List ℕ). xs ++ drop (21 * suc n) bytes) (sym (flat_map-cons transaction_row (transaction_at bytes) (transactions_at n rest)));
      count = ap suc others.count;
      fit = (transaction_fits bytes fits, others.fit);
    }

pub pages_found : (n : ℕ) (bytes : List ℕ) → IsBytes bytes → 12 * n ≤ length bytes → IsRowsOf page_row IsLoggedPage n 12 bytes (pages_at n bytes)
unfolding pages_at
pages_found zero bytes fits long = record { spelled = refl; count = refl; fit = tt }
pages_found (suc n) bytes fits long =
    let rest = drop 12 bytes in
    let others = pages_found n rest (IsBytes-drop 12 bytes fits) (omega (arith, length-drop 12 bytes)) in
    let first : bytes ≡ page_row (page_row_at bytes) ++ rest = page_found bytes fits (omega arith) in
    let behind : drop (12 * n) rest ≡ drop (12 * suc n) bytes = drop-drop (12 * n) 12 bytes ∙ ap (λ (k : ℕ). drop k bytes) (omega arith) in
    let joined = join_rows bytes (page_row (page_row_at bytes)) rest (flat_map page_row (pages_at n rest)) (drop (12 * n) rest) first others.spelled in
    record {
      spelled = joined ∙ ap (λ (xs : List ℕ). (page_row (page_row_at bytes) ++ flat_map page_row (pages_at n rest)) ++ xs) behind ∙ ap (λ (xs : List ℕ). xs ++ drop (12 * suc n) bytes) (sym (flat_map-cons page_row (page_row_at bytes) (pages_at n rest)));
      count = ap suc others.count;
      fit = (record { page = number_below w32 (2 ^ 32) wide32 0 bytes fits; rec_lsn = number_below w64 (2 ^ 64) wide64 4 bytes fits }, others.fit);
    }

pub transactions_again : (rows : List LoggedTransaction) (rest : List ℕ) → AllByRecursion IsLoggedTransaction rows → transactions_at (length rows) (flat_map transaction_row rows ++ rest) ≡ rows
unfolding transactions_at
transactions_again [] rest fit = refl
transactions_again (t ∷ rows) rest fit =
    let others = flat_map transaction_row rows ++ rest in
    let regrouped : flat_map transaction_row (t ∷ rows) ++ rest ≡ transaction_row t ++ others = ap (λ (xs : List ℕ). xs ++ rest) (flat_map-cons transaction_row t rows) ∙ append_assoc (transaction_row t) (flat_map transaction_row rows) rest in
    ap (transactions_at (suc (length rows))) regrouped
    ∙ ap (λ (x : LoggedTransaction). x ∷ transactions_at (length rows) (drop 21 (transaction_row t ++ others))) (transaction_again t others fit.0)
    ∙ ap (λ (xs : List ℕ). t ∷ transactions_at (length rows) xs) (drop_at (transaction_row t) others 21 (length-transaction_row t))
    ∙ ap (λ (xs : List LoggedTransaction). t ∷ xs) (transactions_again rows rest fit.1)

pub pages_again : (rows : List LoggedPage) (rest : List ℕ) → AllByRecursion IsLoggedPage rows → pages_at (length rows) (flat_map page_row rows ++ rest) ≡ rows
unfolding pages_at
pages_again [] rest fit = refl
pages_again (p ∷ rows) rest fit =
    let others = flat_map page_row rows ++ rest in
    let regrouped : flat_map page_row (p ∷ rows) ++ rest ≡ page_row p ++ others = ap (λ (xs : List ℕ). xs ++ rest) (flat_map-cons page_row p rows) ∙ append_assoc (page_row p) (flat_map page_row rows) rest in
    ap (pages_at (suc (length rows))) regrouped
    ∙ ap (λ (x : LoggedPage). x ∷ pages_at (length rows) (drop 12 (page_row p ++ others))) (page_again p others fit.0)
    ∙ ap (λ (xs : List ℕ). p ∷ pages_at (length rows) xs) (drop_at (page_row p) others 12 (length-page_row p))
    ∙ ap (λ (xs : List LoggedPage). p ∷ xs) (pages_again rows rest fit.1)

-- ---- the whole body

join_checkpoint : (bytes a d2 b d4 t dt p : List ℕ) → bytes ≡ a ++ d2 → d2 ≡ b ++ d4 → d4 ≡ t ++ dt → dt ≡ p → bytes ≡ ((a ++ b) ++ t) ++ p
join_checkpoint bytes a d2 b d4 t dt p e1 e2 e3 e4 =
    let rows : d4 ≡ t ++ p = e3 ∙ ap (λ (xs : List ℕ). t ++ xs) e4 in
    e1 ∙ ap (λ (xs : List ℕ). a ++ xs) (e2 ∙ ap (λ (xs : List ℕ). b ++ xs) rows) ∙ sym (append_assoc a b (t ++ p)) ∙ sym (append_assoc (a ++ b) t p)

-- one test, and what stands behind it
abbrev one : {A : Type 0} → Bool → Result A Fault → Result A Fault
one a read = if not a then Err BadLength else read

one_passed : {A : Type 0} (a : Bool) (read : Result A Fault) (y : A) → one a read ≡ Ok y → (a ≡ true) × (read ≡ Ok y)
one_passed true read y e = (refl, e)
one_passed false read y e = absurd cc

pub checkpoint_found : (pages : ℕ) (bytes : List ℕ) (body : Body) → IsBytes bytes → 4 ≤ length bytes → read_checkpoint bytes ≡ Ok body
    → (type_byte body ≡ 7) × (bytes ≡ body_bytes body) × (length bytes ≡ body_len body) × IsBody pages body
unfolding read_checkpoint body_bytes
checkpoint_found pages bytes body fits long e =
    let n = half_at 0 bytes in
    let m = half_at 2 bytes in
    let rows = drop 4 bytes in
    let behind = drop (21 * n) rows in
    let made : Body = EndCheckpoint (transactions_at n rows) (pages_at m behind) in
    let g = one_passed (leb n 256 && leb m 4096 && eqb (length bytes) (4 + 21 * n + 12 * m)) (Ok made) body e in
    let outer = and_parts (leb n 256 && leb m 4096) (eqb (length bytes) (4 + 21 * n + 12 * m)) g.0 in
    let limits = and_parts (leb n 256) (leb m 4096) outer.0 in
    let size : length bytes ≡ 4 + 21 * n + 12 * m = eqb-true (length bytes) (4 + 21 * n + 12 * m) outer.1 in
    let n_small : n ≤ 256 = leb-true n 256 limits.0 in
    let m_small : m ≤ 4096 = leb-true m 4096 limits.1 in
    let rows_len : length rows ≡ 21 * n + 12 * m = omega (arith, length-drop 4 bytes) in
    let behind_len : length behind ≡ 12 * m = omega (arith, length-drop (21 * n) rows) in
    let ts = transactions_found n rows (IsBytes-drop 4 bytes fits) (omega arith) in
    let ps = pages_found m behind (IsBytes-drop (21 * n) rows (IsBytes-drop 4 bytes fits)) (omega arith) in
    let nothing : drop (12 * m) behind ≡ [] = drop_all (12 * m) behind (omega arith) in
    let last : behind ≡ flat_map page_row (pages_at m behind) = ps.spelled ∙ ap (λ (xs : List ℕ). flat_map page_row (pages_at m behind) ++ xs) nothing ∙ append-nil (flat_map page_row (pages_at m behind)) in
    let joined = join_checkpoint bytes (to_be_bytes w16 n) (drop 2 bytes) (to_be_bytes w16 m) rows (flat_map transaction_row (transactions_at n rows)) behind (flat_map page_row (pages_at m behind))
    (number_field w16 (2 ^ 16) wide16 0 bytes fits (omega arith)) (number_field w16 (2 ^ 16) wide16 2 bytes fits (omega arith)) ts.spelled last in
    let spell : ℕ → ℕ → List ℕ = λ a b. ((to_be_bytes w16 a ++ to_be_bytes w16 b) ++ flat_map transaction_row (transactions_at n rows)) ++ flat_map page_row (pages_at m behind) in
    let whole : bytes ≡ spell (length (transactions_at n rows)) (length (pages_at m behind)) = joined ∙ ap (λ (k : ℕ). spell k m) (sym ts.count) ∙ ap (λ (k : ℕ). spell (length (transactions_at n rows)) k) (sym ps.count) in
    let long_as : length bytes ≡ 4 + 21 * length (transactions_at n rows) + 12 * length (pages_at m behind) = omega (arith, ts.count, ps.count) in
    subst (λ (v : Body). (type_byte v ≡ 7) × (bytes ≡ body_bytes v) × (length bytes ≡ body_len v) × IsBody pages v) (ok_is made body g.1)
    (refl, whole, long_as, (omega (arith, ts.count), omega (arith, ps.count), ts.fit, ps.fit))

-- reading from the fields of an end_chkpt
abbrev checkpoint_of : ℕ → ℕ → ℕ → List ℕ → Result Body Fault
checkpoint_of n m len rows = one (leb n 256 && leb m 4096 && eqb len (4 + 21 * n + 12 * m)) (Ok (EndCheckpoint (transactions_at n rows) (pages_at m (drop (21 * n) rows))))

one_pass : {A : Type 0} (a : Bool) (read : Result A Fault) → a ≡ true → one a read ≡ read
one_pass a read p = rw p refl

checkpoint_made : (ts : List LoggedTransaction) (ps : List LoggedPage) → length ts ≤ 256 → length ps ≤ 4096 → AllByRecursion IsLoggedTransaction ts → AllByRecursion IsLoggedPage ps
    → checkpoint_of (length ts) (length ps) (4 + 21 * length ts + 12 * length ps) (flat_map transaction_row ts ++ flat_map page_row ps) ≡ Ok (EndCheckpoint ts ps)
checkpoint_made ts ps few_ts few_ps ts_fit ps_fit =
    let n = length ts in
    let m = length ps in
    let rows = flat_map transaction_row ts ++ flat_map page_row ps in
    let test = and_from (leb n 256 && leb m 4096) (eqb (4 + 21 * n + 12 * m) (4 + 21 * n + 12 * m)) (and_from (leb n 256) (leb m 4096) (le-leb n 256 few_ts) (le-leb m 4096 few_ps)) (eq-eqb (4 + 21 * n + 12 * m) (4 + 21 * n + 12 * m) refl) in
    let second : drop (21 * n) rows ≡ flat_map page_row ps ++ [] = drop_at (flat_map transaction_row ts) (flat_map page_row ps) (21 * n) (length-transactions ts) ∙ sym (append-nil (flat_map page_row ps)) in
    one_pass (leb n 256 && leb m 4096 && eqb (4 + 21 * n + 12 * m) (4 + 21 * n + 12 * m)) (Ok (EndCheckpoint (transactions_at n rows) (pages_at m (drop (21 * n) rows)))) test
    ∙ ap (λ (xs : List LoggedTransaction). done (EndCheckpoint xs (pages_at m (drop (21 * n) rows)))) (transactions_again ts (flat_map page_row ps) ts_fit)
    ∙ ap (λ (xs : List ℕ). done (EndCheckpoint ts (pages_at m xs))) second
    ∙ ap (λ (xs : List LoggedPage). done (EndCheckpoint ts xs)) (pages_again ps [] ps_fit)

pub checkpoint_again : (ts : List LoggedTransaction) (ps : List LoggedPage) → length ts ≤ 256 → length ps ≤ 4096 → AllByRecursion IsLoggedTransaction ts → AllByRecursion IsLoggedPage ps
    → read_checkpoint (body_bytes (EndCheckpoint ts ps)) ≡ Ok (EndCheckpoint ts ps)
unfolding read_checkpoint body_bytes
checkpoint_again ts ps few_ts few_ps ts_fit ps_fit =
    let rows = flat_map transaction_row ts ++ flat_map page_row ps in
    let bytes = body_bytes (EndCheckpoint ts ps) in
    let n : half_at 0 bytes ≡ length ts = number_again w16 (2 ^ 16) wide16 0 bytes (to_be_bytes w16 (length ps) ++ rows) (length ts) (omega arith) refl in
    let m : half_at 2 bytes ≡ length ps = number_again w16 (2 ^ 16) wide16 2 bytes rows (length ps) (omega arith) refl in
    let len : length bytes ≡ 4 + 21 * length ts + 12 * length ps = omega (arith, length-append (flat_map transaction_row ts) (flat_map page_row ps), length-transactions ts, length-pages ps) in
    ap (λ (k : ℕ). checkpoint_of k (half_at 2 bytes) (length bytes) rows) n
    ∙ ap (λ (k : ℕ). checkpoint_of (length ts) k (length bytes) rows) m
    ∙ ap (λ (k : ℕ). checkpoint_of (length ts) (length ps) k rows) len
    ∙ checkpoint_made ts ps few_ts few_ps ts_fit ps_fit
