-- The table of a log, through one more record.
use Rattle.std.proofs.Common.{◌≡◌, ℕ, ◌==◌, ◌+◌, ◌%◌, ◌^◌, ◌≤◌, ◌<◌, nat_le, Bool, true, false, not, ◌&&◌, ◌||◌, List, [], ◌∷◌, ◌++◌, length, get_or, set, map, inl, inr, refl, sym, ap, ◌∙◌, subst, arith, zero, suc, le_of_suc-le-suc, not-suc-le-zero}
use Rattle.std.specs.List.{All, remove}
use Rattle.std.proofs.lemmas.Bool.{cases_Bool, cases_lt, eqb-true, eq-eqb, false≢true, and_parts, le-leb, or_parts, lt-ltb}
use Rattle.std.proofs.lemmas.List.{get_or-map, length-map, map_push, length_push}
use Rattle.als_record.specs.declared.record.Record.{Record}
use Rattle.als_record.specs.declared.transaction_row.TransactionRow.{TransactionRow}
use Rattle.als_record.specs.Transactions.{is_transactional, is_end, is_of, to_undo, has_begun, records_of, is_unended, unended, is_among, greatest_trans, undo_next_of}
use Rattle.als_record.specs.Table.{row_of, table_of, row_after, fresh_row}
use Rattle.als_record.specs.Validity.{old_transaction, too_many, may_follow}
use Rattle.als_record.proofs.Records.{to_undo-none, has_begun-other, has_begun-unended}
use Rattle.als_record.proofs.Numbers.{Apart, without, eqb-refl, eqb-sym, is_among-filter}
use Rattle.als_record.proofs.Survivors.{log_induction}
use Rattle.als_record.proofs.Unended.{unended-checkpoint, unended-more, unended-end, unended-new, unended-new_end, Apart-unended, is_among-unended, greatest_trans-push}
use Rattle.als_record.proofs.TableSteps.{table_of-checkpoint, table_of-new, table_of-new_end}
use Rattle.als_record.proofs.TableRows.{numbers, numbers-table_of, is_among-table_of, get_or-table_of, is_unended-row, table_of-set, table_of-remove}
use Rattle.als_record.proofs.Validity.{Admitted, Admitted-may_follow}
use Rattle.als_analysis.specs.Open.{count_after, bytes_after}
use Rattle.als_analysis.specs.Noted.{Table, IsTableOf, StandsAt, survivor_count, undo_bytes}
use Rattle.als_analysis.proofs.KeptSteps.{remove-map}
use Rattle.als_analysis.proofs.UndoBytes.{undo_bytes-other, undo_bytes-own, undo_bytes-none, survivor_count-other, survivor_count-own}

-- ---- maps of numbers that are apart

module _ {Y : Type 0} (f g : ℕ → Y) (t : ℕ) (agree : (x : ℕ) → (x == t) ≡ false → f x ≡ g x) where
  map-absent : (xs : List ℕ) → is_among xs t ≡ false → map f xs ≡ map g xs
  map-absent [] n = refl
  map-absent (x ∷ rest) n =
      let parts : ((x == t) ≡ false) × (is_among rest t ≡ false) = or_parts (x == t) (is_among rest t) n in
      let p : f x ≡ g x = agree x parts.0 in
      let q : map f rest ≡ map g rest = map-absent rest parts.1 in
      cc

  among-at : (xs : List ℕ) (i : ℕ) → i < length xs → get_or xs i 0 ≡ t → is_among xs t ≡ true
  among-at [] i lt q = absurd (not-suc-le-zero lt)
  among-at (x ∷ rest) zero lt q = rw (eq-eqb x t q) refl
  among-at (x ∷ rest) (suc i) lt q = rw (among-at rest i (le_of_suc-le-suc lt) q) (either (x == t))
    where
      either : (b : Bool) → (b || true) ≡ true
      either true = refl
      either false = refl

  differs : (x : ℕ) (rest : List ℕ) (i : ℕ) → is_among rest x ≡ false → i < length rest → get_or rest i 0 ≡ t → (x == t) ≡ false
  differs x rest i n lt q = elim (cases_Bool (x == t)) [
    | inl e ↦ absurd (false≢true (sym n ∙ ap (is_among rest) (eqb-true x t e) ∙ among-at rest i lt q))
    | inr e ↦ e
  ]

  map-at : (xs : List ℕ) (i : ℕ) → Apart xs → i < length xs → get_or xs i 0 ≡ t → map f xs ≡ set (map g xs) i (f t)
  map-at [] i a lt q = absurd (not-suc-le-zero lt)
  map-at (x ∷ rest) zero a lt q =
      let p : f x ≡ f t = ap f q in
      let m : map f rest ≡ map g rest = map-absent rest (ap (is_among rest) (sym q) ∙ a.0) in
      cc
  map-at (x ∷ rest) (suc i) a lt q =
      let p : f x ≡ g x = agree x (differs x rest i a.0 (le_of_suc-le-suc lt) q) in
      let m : map f rest ≡ set (map g rest) i (f t) = map-at rest i a.1 (le_of_suc-le-suc lt) q in
      cc

module _ (t : ℕ) where
  without-all : (xs : List ℕ) → is_among xs t ≡ false → without t xs ≡ xs
  without-all [] n = refl
  without-all (x ∷ rest) n =
      let parts : ((x == t) ≡ false) × (is_among rest t ≡ false) = or_parts (x == t) (is_among rest t) n in
      rw parts.0 (ap (λ ys. x ∷ ys) (without-all rest parts.1))

  without-remove : (xs : List ℕ) (i : ℕ) → Apart xs → i < length xs → get_or xs i 0 ≡ t → without t xs ≡ remove xs i
  without-remove [] i a lt q = absurd (not-suc-le-zero lt)
  without-remove (x ∷ rest) zero a lt q = rw (eq-eqb x t q) (without-all rest (ap (is_among rest) (sym q) ∙ a.0))
  without-remove (x ∷ rest) (suc i) a lt q = rw (differs (λ n. n) (λ n. n) t (λ n e. refl) x rest i a.0 (le_of_suc-le-suc lt) q) (ap (λ ys. x ∷ ys) (without-remove rest i a.1 (le_of_suc-le-suc lt) q))

-- ---- a transaction that has begun is not above the greatest

has_begun-nil : (t : ℕ) → has_begun [] t ≡ false
unfolding has_begun records_of
has_begun-nil t = refl

pub begun-le-greatest : (log : List Record) (t : ℕ) → has_begun log t ≡ true → t ≤ greatest_trans log
begun-le-greatest log = log_induction (λ l. (t : ℕ) → has_begun l t ≡ true → t ≤ greatest_trans l) (λ t b. absurd (false≢true (sym (has_begun-nil t) ∙ b))) more log
  where
    more : (l : List Record) (r : Record) → ((t : ℕ) → has_begun l t ≡ true → t ≤ greatest_trans l) → (t : ℕ) → has_begun (l ++ r ∷ []) t ≡ true → t ≤ greatest_trans (l ++ r ∷ [])
    more l r h t b = rw (greatest_trans-push l r) (elim (cases_Bool (is_of t r)) [
      | inl o ↦ let e : r.trans.0 ≡ t = eqb-true r.trans.0 t (and_parts (is_transactional r.body) (r.trans.0 == t) o).1 in omega arith
      | inr o ↦ let k : t ≤ greatest_trans l = h t (sym (has_begun-other l r t o) ∙ b) in omega arith
    ])

-- a transaction without a row, of which a record may follow, has not begun
pub fresh-follows : (log : List Record) (r : Record) → may_follow log r ≡ true → is_transactional r.body ≡ true → is_unended log r.trans.0 ≡ false → greatest_trans log < r.trans.0
unfolding old_transaction
fresh-follows log r m w u = elim (cases_lt (greatest_trans log) r.trans.0) [
  | inl lt ↦ lt
  | inr ge ↦
      let a : Admitted log r = Admitted-may_follow log r m in
      let l : nat_le r.trans.0 (greatest_trans log) ≡ true = le-leb r.trans.0 (greatest_trans log) ge in
      let f : (is_transactional r.body && not (is_unended log r.trans.0) && nat_le r.trans.0 (greatest_trans log)) ≡ true = rw (w, u, l) refl in
      absurd (false≢true (sym a.old ∙ f))
]

pub not_begun : (log : List Record) (t : ℕ) → greatest_trans log < t → has_begun log t ≡ false
not_begun log t g = elim (cases_Bool (has_begun log t)) [
  | inr e ↦ e
  | inl e ↦ let h : t ≤ greatest_trans log = begun-le-greatest log t e in absurd (omega arith)
]

-- ---- the rows of the table

-- each unended transaction at its row's place
pub get_or-unended : (log : List Record) (i : ℕ) (d : TransactionRow) → i < length (table_of log) → get_or (unended log) i 0 ≡ (get_or (table_of log) i d).trans.0
get_or-unended log i d lt = ap (λ xs. get_or xs i 0) (sym (numbers-table_of log)) ∙ get_or-map (λ (row : TransactionRow). row.trans.0) (table_of log) i d 0 lt

pub length-table_of : (log : List Record) → length (table_of log) ≡ length (unended log)
length-table_of log = sym (length-map (table_of log) (λ row. row.trans.0)) ∙ ap length (numbers-table_of log)

-- a transaction with a row is unended
pub unended-at : (log : List Record) (i t : ℕ) (d : TransactionRow) → i < length (table_of log) → (get_or (table_of log) i d).trans.0 ≡ t → is_unended log t ≡ true
unended-at log i t d lt e = sym (is_among-unended log t) ∙ among-at (λ n. n) (λ n. n) t (λ n q. refl) (unended log) i (subst (λ n. i < n) (length-table_of log) lt) (get_or-unended log i d lt ∙ e)

-- the number that is kept of the surviving updates of a transaction
abbrev kept_count : List Record → ℕ → ℕ
kept_count log t = survivor_count log t % 2 ^ 64

-- what stands at a row's place
pub record Found (log : List Record) (table : Table) (i t : ℕ) : Type 0 where
  pub is_open : is_unended log t ≡ true
  pub row : (d : TransactionRow) → get_or table.rows i d ≡ row_of log t
  pub left : get_or table.left i 0 ≡ survivor_count log t % 2 ^ 64

pub row-found : (log : List Record) (table : Table) (i t : ℕ) → IsTableOf table log → i < length table.rows → ((d : TransactionRow) → (get_or table.rows i d).trans.0 ≡ t) → Found log table i t
row-found log table i t h within here =
    let lt : i < length (table_of log) = subst (λ (rows : List TransactionRow). i < length rows) h.rows within in
    let at : (get_or (table_of log) i (fresh_row 0)).trans.0 ≡ t = subst (λ (rows : List TransactionRow). (get_or rows i (fresh_row 0)).trans.0 ≡ t) h.rows (here (fresh_row 0)) in
    record {
      is_open = unended-at log i t (fresh_row 0) lt at;
      row = λ d. ap (λ rows. get_or rows i d) h.rows ∙ get_or-table_of log i d lt ∙ ap (row_of log) (sym (ap (λ (rows : List TransactionRow). (get_or rows i d).trans.0) h.rows) ∙ here d);
      left = ap (λ left. get_or left i 0) h.left ∙ get_or-map (kept_count log) (unended log) i 0 0 (subst (λ n. i < n) (length-table_of log) lt) ∙ ap (kept_count log) (get_or-unended log i (fresh_row 0) lt ∙ at);
    }

pub row-absent : (log : List Record) (table : Table) (t : ℕ) → IsTableOf table log → is_among (numbers table.rows) t ≡ false → is_unended log t ≡ false
row-absent log table t h absent = sym (is_among-table_of log t) ∙ subst (λ (rows : List TransactionRow). is_among (numbers rows) t ≡ false) h.rows absent

-- a transaction that has a row stands at its place, and the row is its own
pub stands-found : (log : List Record) (table : Table) (i t : ℕ) → IsTableOf table log → i < length table.rows → ((d : TransactionRow) → (get_or table.rows i d).trans.0 ≡ t) → StandsAt log t i
stands-found log table i t h within here =
    let lt : i < length (table_of log) = subst (λ (rows : List TransactionRow). i < length rows) h.rows within in
    let at : (get_or (table_of log) i (fresh_row 0)).trans.0 ≡ t = subst (λ (rows : List TransactionRow). (get_or rows i (fresh_row 0)).trans.0 ≡ t) h.rows (here (fresh_row 0)) in
    record { is_open = unended-at log i t (fresh_row 0) lt at; within = subst (λ n. i < n) (length-table_of log) lt; here = get_or-unended log i (fresh_row 0) lt ∙ at }

pub row-standing : (log : List Record) (i t : ℕ) (d : TransactionRow) → StandsAt log t i → get_or (table_of log) i d ≡ row_of log t
unfolding table_of
row-standing log i t d s = get_or-map (row_of log) (unended log) i 0 d s.within ∙ ap (row_of log) s.here

pub undo_next_of-row : (log : List Record) (t : ℕ) → (row_of log t).undo_next ≡ record { 0 = undo_next_of log t }
unfolding row_of
undo_next_of-row log t = refl

-- ---- one more record

-- What is kept of each unended transaction, where only the records of a transaction change what is kept of it: `f` with one more record, `g` without it.
module _ {X : Type 0} (f g : ℕ → X) (log : List Record) (r : Record) (agree : (x : ℕ) → is_of x r ≡ false → f x ≡ g x) (old new : List X) (kept : old ≡ map g (unended log)) where
  others : (x : ℕ) → (x == r.trans.0) ≡ false → f x ≡ g x
  others x e = agree x (off (is_transactional r.body) (eqb-sym r.trans.0 x ∙ e))
    where
      off : (w : Bool) → (r.trans.0 == x) ≡ false → (w && (r.trans.0 == x)) ≡ false
      off true e = e
      off false e = refl

  pub each-checkpoint : is_transactional r.body ≡ false → new ≡ old → new ≡ map f (unended (log ++ r ∷ []))
  each-checkpoint w p = p ∙ kept ∙ sym (ap (map f) (unended-checkpoint log r w) ∙ all (unended log))
    where
      all : (xs : List ℕ) → map f xs ≡ map g xs
      all [] = refl
      all (x ∷ rest) =
          let p : f x ≡ g x = agree x (rw w refl) in
          let q : map f rest ≡ map g rest = all rest in
          cc

  module _ (w : is_transactional r.body ≡ true) (i : ℕ) (inside : i < length (unended log)) (place : get_or (unended log) i 0 ≡ r.trans.0) (open_ : is_unended log r.trans.0 ≡ true) where
    pub each-more : (step : X → X) (d : X) → is_end r.body ≡ false → f r.trans.0 ≡ step (g r.trans.0) → new ≡ set old i (step (get_or old i d)) → new ≡ map f (unended (log ++ r ∷ []))
    each-more step d e own p =
        p ∙ ap (λ xs. set xs i (step (get_or xs i d))) kept
        ∙ ap (λ x. set (map g (unended log)) i (step x)) (get_or-map g (unended log) i 0 d inside ∙ ap g place)
        ∙ ap (λ x. set (map g (unended log)) i x) (sym own)
        ∙ sym (ap (map f) (unended-more log r w e open_) ∙ map-at f g r.trans.0 others (unended log) i (Apart-unended log) inside place)

    pub each-end : is_end r.body ≡ true → new ≡ remove old i → new ≡ map f (unended (log ++ r ∷ []))
    each-end e p =
        p ∙ ap (λ xs. remove xs i) kept ∙ remove-map g (unended log) i inside
        ∙ ap (map g) (sym (without-remove r.trans.0 (unended log) i (Apart-unended log) inside place))
        ∙ sym (ap (map f) (unended-end log r w e (has_begun-unended log r.trans.0 open_)) ∙ map-absent f g r.trans.0 others (without r.trans.0 (unended log)) gone)
      where
        gone : is_among (without r.trans.0 (unended log)) r.trans.0 ≡ false
        gone = is_among-filter (λ x. not (x == r.trans.0)) r.trans.0 (unended log) ∙ rw (eqb-refl r.trans.0) refl

  module _ (w : is_transactional r.body ≡ true) (begins : has_begun log r.trans.0 ≡ false) (not_among : is_among (unended log) r.trans.0 ≡ false) where
    pub each-new_end : is_end r.body ≡ true → new ≡ old → new ≡ map f (unended (log ++ r ∷ []))
    each-new_end e p = p ∙ kept ∙ sym (ap (map f) (unended-new_end log r w e begins) ∙ map-absent f g r.trans.0 others (unended log) not_among)

    pub each-new : (x : X) → is_end r.body ≡ false → f r.trans.0 ≡ x → new ≡ old ++ x ∷ [] → new ≡ map f (unended (log ++ r ∷ []))
    each-new x e own p =
        p ∙ ap (λ xs. xs ++ x ∷ []) kept ∙ ap (λ x. map g (unended log) ++ x ∷ []) (sym own)
        ∙ ap (λ xs. xs ++ f r.trans.0 ∷ []) (sym (map-absent f g r.trans.0 others (unended log) not_among))
        ∙ sym (ap (map f) (unended-new log r w e begins) ∙ map_push f (unended log) r.trans.0)

-- the bytes that are counted of a transaction
abbrev counted : List Record → ℕ → ℕ
counted log t = undo_bytes log t % 2 ^ 64

module _ (log : List Record) (r : Record) where
  left_agree : (x : ℕ) → is_of x r ≡ false → kept_count (log ++ r ∷ []) x ≡ kept_count log x
  left_agree x e = ap (λ n. n % 2 ^ 64) (survivor_count-other log r x e)

  bytes_agree : (x : ℕ) → is_of x r ≡ false → counted (log ++ r ∷ []) x ≡ counted log x
  bytes_agree x e = ap (λ n. n % 2 ^ 64) (undo_bytes-other log r x e)

  own : is_transactional r.body ≡ true → is_of r.trans.0 r ≡ true
  own w = rw (w, eqb-refl r.trans.0) refl

  module _ (old new : Table) (h : IsTableOf old log) where
    pub step-checkpoint : is_transactional r.body ≡ false → new.rows ≡ old.rows → new.left ≡ old.left → new.bytes ≡ old.bytes → IsTableOf new (log ++ r ∷ [])
    step-checkpoint w p q s = record {
      rows = p ∙ h.rows ∙ sym (table_of-checkpoint log r w);
      left = each-checkpoint (kept_count (log ++ r ∷ [])) (kept_count log) log r left_agree old.left new.left h.left w q;
      bytes = each-checkpoint (counted (log ++ r ∷ [])) (counted log) log r bytes_agree old.bytes new.bytes h.bytes w s;
    }

    module _ (w : is_transactional r.body ≡ true) (m : may_follow log r ≡ true) where
      own_left : kept_count (log ++ r ∷ []) r.trans.0 ≡ count_after (kept_count log r.trans.0) r.body
      own_left = let a : Admitted log r = Admitted-may_follow log r m in survivor_count-own log r (own w) a.compensation

      own_bytes : counted (log ++ r ∷ []) r.trans.0 ≡ bytes_after (counted log r.trans.0) r.body
      own_bytes = let a : Admitted log r = Admitted-may_follow log r m in undo_bytes-own log r (own w) a.compensation

      module _ (i : ℕ) (d : TransactionRow) (within : i < length old.rows) (at : (get_or old.rows i d).trans.0 ≡ r.trans.0) where
        lt : i < length (table_of log)
        lt = subst (λ (rows : List TransactionRow). i < length rows) h.rows within

        here : (get_or (table_of log) i d).trans.0 ≡ r.trans.0
        here = subst (λ (rows : List TransactionRow). (get_or rows i d).trans.0 ≡ r.trans.0) h.rows at

        place : get_or (unended log) i 0 ≡ r.trans.0
        place = get_or-unended log i d lt ∙ here

        inside : i < length (unended log)
        inside = subst (λ n. i < n) (length-table_of log) lt

        open_ : is_unended log r.trans.0 ≡ true
        open_ = is_unended-row log r i d lt here

        pub step-more : is_end r.body ≡ false → new.rows ≡ set old.rows i (row_after (get_or old.rows i d) r) → new.left ≡ set old.left i (count_after (get_or old.left i 0) r.body) → new.bytes ≡ set old.bytes i (bytes_after (get_or old.bytes i 0) r.body) → IsTableOf new (log ++ r ∷ [])
        step-more e p q s = record {
          rows = p ∙ ap (λ rows. set rows i (row_after (get_or rows i d) r)) h.rows ∙ sym (table_of-set log r i d lt here w e);
          left = each-more (kept_count (log ++ r ∷ [])) (kept_count log) log r left_agree old.left new.left h.left w i inside place open_ (λ n. count_after n r.body) 0 e own_left q;
          bytes = each-more (counted (log ++ r ∷ [])) (counted log) log r bytes_agree old.bytes new.bytes h.bytes w i inside place open_ (λ n. bytes_after n r.body) 0 e own_bytes s;
        }

        pub step-end : is_end r.body ≡ true → new.rows ≡ remove old.rows i → new.left ≡ remove old.left i → new.bytes ≡ remove old.bytes i → IsTableOf new (log ++ r ∷ [])
        step-end e p q s = record {
          rows = p ∙ ap (λ rows. remove rows i) h.rows ∙ sym (table_of-remove log r i d lt here w e);
          left = each-end (kept_count (log ++ r ∷ [])) (kept_count log) log r left_agree old.left new.left h.left w i inside place open_ e q;
          bytes = each-end (counted (log ++ r ∷ [])) (counted log) log r bytes_agree old.bytes new.bytes h.bytes w i inside place open_ e s;
        }

      module _ (absent : is_among (numbers old.rows) r.trans.0 ≡ false) where
        closed : is_unended log r.trans.0 ≡ false
        closed = sym (is_among-table_of log r.trans.0) ∙ subst (λ (rows : List TransactionRow). is_among (numbers rows) r.trans.0 ≡ false) h.rows absent

        begins : has_begun log r.trans.0 ≡ false
        begins = not_begun log r.trans.0 (fresh-follows log r m w closed)

        not_among : is_among (unended log) r.trans.0 ≡ false
        not_among = is_among-unended log r.trans.0 ∙ closed

        none : to_undo log r.trans.0 ≡ []
        none = to_undo-none log r.trans.0 begins

        pub step-new_end : is_end r.body ≡ true → new.rows ≡ old.rows → new.left ≡ old.left → new.bytes ≡ old.bytes → IsTableOf new (log ++ r ∷ [])
        step-new_end e p q s = record {
          rows = p ∙ h.rows ∙ sym (table_of-new_end log r w e begins);
          left = each-new_end (kept_count (log ++ r ∷ [])) (kept_count log) log r left_agree old.left new.left h.left w begins not_among e q;
          bytes = each-new_end (counted (log ++ r ∷ [])) (counted log) log r bytes_agree old.bytes new.bytes h.bytes w begins not_among e s;
        }

        pub step-new : is_end r.body ≡ false → new.rows ≡ old.rows ++ row_after (fresh_row r.trans.0) r ∷ [] → new.left ≡ old.left ++ count_after 0 r.body ∷ [] → new.bytes ≡ old.bytes ++ bytes_after 0 r.body ∷ [] → IsTableOf new (log ++ r ∷ [])
        step-new e p q s = record {
          rows = p ∙ ap (λ rows. rows ++ row_after (fresh_row r.trans.0) r ∷ []) h.rows ∙ sym (table_of-new log r w e begins);
          left = each-new (kept_count (log ++ r ∷ [])) (kept_count log) log r left_agree old.left new.left h.left w begins not_among (count_after 0 r.body) e (own_left ∙ ap (λ (us : List Record). count_after (length us % 2 ^ 64) r.body) none) q;
          bytes = each-new (counted (log ++ r ∷ [])) (counted log) log r bytes_agree old.bytes new.bytes h.bytes w begins not_among (bytes_after 0 r.body) e (own_bytes ∙ ap (λ n. bytes_after (n % 2 ^ 64) r.body) (undo_bytes-none log r.trans.0 none)) s;
        }

        -- there is place for it, above all rows
        pub new-few : is_end r.body ≡ false → length old.rows < 256
        unfolding too_many
        new-few e =
            let a : Admitted log r = Admitted-may_follow log r m in
            let n : length (unended (log ++ r ∷ [])) ≡ length (unended log) + 1 = ap length (unended-new log r w e begins) ∙ length_push (unended log) r.trans.0 in
            let k : length old.rows ≡ length (unended log) = ap length h.rows ∙ length-table_of log in
            elim (cases_lt (length old.rows) 256) [
              | inl l ↦ l
              | inr g ↦ absurd (false≢true (sym a.many ∙ lt-ltb 256 (length (unended (log ++ r ∷ []))) (omega arith)))
            ]

        pub new-above : All (λ row. row.trans.0 < r.trans.0) old.rows
        new-above i d within =
            let lt : i < length (table_of log) = subst (λ (rows : List TransactionRow). i < length rows) h.rows within in
            let u : is_unended log (get_or (table_of log) i d).trans.0 ≡ true = unended-at log i (get_or (table_of log) i d).trans.0 d lt refl in
            let b : (get_or (table_of log) i d).trans.0 ≤ greatest_trans log = begun-le-greatest log (get_or (table_of log) i d).trans.0 (has_begun-unended log (get_or (table_of log) i d).trans.0 u) in
            let g : greatest_trans log < r.trans.0 = fresh-follows log r m w closed in
            subst (λ (rows : List TransactionRow). (get_or rows i d).trans.0 < r.trans.0) (sym h.rows) (omega arith)
