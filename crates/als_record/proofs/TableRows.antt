-- The rows of the transaction table by their places: one row for each unended transaction, found by its number.
use Rattle.std.proofs.Common.{◌≡◌, ℕ, zero, suc, ◌==◌, ◌<◌, Bool, true, false, cond, not, ◌&&◌, ◌||◌, List, [], ◌∷◌, ◌++◌, length, map, filter, get_or, set, remove, refl, sym, ap, ◌∙◌, inl, inr, le_of_suc-le-suc, not-suc-le-zero}
use Rattle.std.proofs.lemmas.Bool.{cases_Bool, eqb-true, eq-eqb, false≢true, or_parts}
use Rattle.als_record.specs.declared.record.Record.{Record}
use Rattle.als_record.specs.declared.transaction_row.TransactionRow.{TransactionRow}
use Rattle.als_record.specs.declared.transaction_state.TransactionState.{TransactionState}
use Rattle.als_record.specs.declared.transaction_state.TransactionState.TheVariants.{Active, Committed, RollingBack, Prepared}
use Rattle.als_record.specs.Transactions.{is_transactional, is_end, is_committed, has_rollback, has_prepare, is_unended, unended, is_among}
use Rattle.als_record.specs.Table.{state_of, row_of, table_of, row_after}
use Rattle.als_record.proofs.Numbers.{eqb-refl}
use Rattle.als_record.specs.Orders.{Apart}
use Rattle.als_record.proofs.Unended.{is_among-unended, Apart-unended}
use Rattle.als_record.proofs.Records.{has_begun-unended}
use Rattle.als_record.proofs.TableSteps.{with_record, is_row_of_other, table_of-more, table_of-end}

-- the numbers of rows
abbrev pub numbers : List TransactionRow → List ℕ
numbers rows = map (λ row. row.trans.0) rows

pub numbers-table_of : (log : List Record) → numbers (table_of log) ≡ unended log
unfolding table_of row_of
numbers-table_of log = same (unended log)
  where
    same : (xs : List ℕ) → numbers (map (row_of log) xs) ≡ xs
    same [] = refl
    same (x ∷ rest) = ap (λ ys. x ∷ ys) (same rest)

pub Apart-table_of : (log : List Record) → Apart (numbers (table_of log))
Apart-table_of log = rw (numbers-table_of log) (Apart-unended log)

-- whether there is a row of a transaction
pub is_among-table_of : (log : List Record) (t : ℕ) → is_among (numbers (table_of log)) t ≡ is_unended log t
is_among-table_of log t = rw (numbers-table_of log) (is_among-unended log t)

-- each row is what its transaction's records say
pub get_or-table_of : (log : List Record) (i : ℕ) (d : TransactionRow) → i < length (table_of log) → get_or (table_of log) i d ≡ row_of log (get_or (table_of log) i d).trans.0
unfolding table_of row_of
get_or-table_of log i d lt = at (unended log) i lt
  where
    at : (xs : List ℕ) (i : ℕ) → i < length (map (row_of log) xs) → get_or (map (row_of log) xs) i d ≡ row_of log (get_or (map (row_of log) xs) i d).trans.0
    at [] i lt = absurd (not-suc-le-zero lt)
    at (x ∷ rest) zero lt = refl
    at (x ∷ rest) (suc i) lt = at rest i (le_of_suc-le-suc lt)

-- ---- one row of rows with different numbers

module _ (r : Record) where
  others_stay : (rows : List TransactionRow) → is_among (numbers rows) r.trans.0 ≡ false → map (with_record r) rows ≡ rows
  others_stay [] n = refl
  others_stay (row ∷ rest) n =
      let parts : ((row.trans.0 == r.trans.0) ≡ false) × (is_among (numbers rest) r.trans.0 ≡ false) = or_parts _ _ n in
      rw parts.0 (ap (λ rows. row ∷ rows) (others_stay rest parts.1))

  others_kept : (rows : List TransactionRow) → is_among (numbers rows) r.trans.0 ≡ false → filter (is_row_of_other r) rows ≡ rows
  others_kept [] n = refl
  others_kept (row ∷ rest) n =
      let parts : ((row.trans.0 == r.trans.0) ≡ false) × (is_among (numbers rest) r.trans.0 ≡ false) = or_parts _ _ n in
      rw parts.0 (ap (λ rows. row ∷ rows) (others_kept rest parts.1))

  -- a place behind the first row has another number than the first row
  among_at : (rows : List TransactionRow) (i : ℕ) (d : TransactionRow) → i < length rows → is_among (numbers rows) (get_or rows i d).trans.0 ≡ true
  among_at [] i d lt = absurd (not-suc-le-zero lt)
  among_at (row ∷ rest) zero d lt = rw (eqb-refl row.trans.0) refl
  among_at (row ∷ rest) (suc i) d lt = rw (among_at rest i d (le_of_suc-le-suc lt)) (either (row.trans.0 == (get_or rest i d).trans.0))
    where
      either : (b : Bool) → (b || true) ≡ true
      either true = refl
      either false = refl

  differs : (row : TransactionRow) (rest : List TransactionRow) (i : ℕ) (d : TransactionRow) → is_among (numbers rest) row.trans.0 ≡ false → i < length rest → (get_or rest i d).trans.0 ≡ r.trans.0 → (row.trans.0 == r.trans.0) ≡ false
  differs row rest i d n lt q = elim (cases_Bool (row.trans.0 == r.trans.0)) [
    | inl e ↦ absurd (false≢true (sym n ∙ ap (is_among (numbers rest)) (eqb-true row.trans.0 r.trans.0 e ∙ sym q) ∙ among_at rest i d lt))
    | inr e ↦ e
  ]

  pub with_record-set : (rows : List TransactionRow) (i : ℕ) (d : TransactionRow) → Apart (numbers rows) → i < length rows → (get_or rows i d).trans.0 ≡ r.trans.0 → map (with_record r) rows ≡ set rows i (row_after (get_or rows i d) r)
  with_record-set [] i d a lt q = absurd (not-suc-le-zero lt)
  with_record-set (row ∷ rest) zero d a lt q =
      let e : (row.trans.0 == r.trans.0) ≡ true = eq-eqb row.trans.0 r.trans.0 q in
      rw e (ap (λ rows. row_after row r ∷ rows) (others_stay rest (ap (is_among (numbers rest)) (sym q) ∙ a.0)))
  with_record-set (row ∷ rest) (suc i) d a lt q =
      let e : (row.trans.0 == r.trans.0) ≡ false = differs row rest i d a.0 (le_of_suc-le-suc lt) q in
      rw e (ap (λ rows. row ∷ rows) (with_record-set rest i d a.1 (le_of_suc-le-suc lt) q))

  pub other_rows-remove : (rows : List TransactionRow) (i : ℕ) (d : TransactionRow) → Apart (numbers rows) → i < length rows → (get_or rows i d).trans.0 ≡ r.trans.0 → filter (is_row_of_other r) rows ≡ remove rows i
  other_rows-remove [] i d a lt q = absurd (not-suc-le-zero lt)
  other_rows-remove (row ∷ rest) zero d a lt q =
      let e : (row.trans.0 == r.trans.0) ≡ true = eq-eqb row.trans.0 r.trans.0 q in
      rw e (others_kept rest (ap (is_among (numbers rest)) (sym q) ∙ a.0))
  other_rows-remove (row ∷ rest) (suc i) d a lt q =
      let e : (row.trans.0 == r.trans.0) ≡ false = differs row rest i d a.0 (le_of_suc-le-suc lt) q in
      rw e (ap (λ rows. row ∷ rows) (other_rows-remove rest i d a.1 (le_of_suc-le-suc lt) q))

-- ---- the table with one more record, at the place of its transaction's row

module _ (log : List Record) (r : Record) (i : ℕ) (d : TransactionRow) (lt : i < length (table_of log)) (here : (get_or (table_of log) i d).trans.0 ≡ r.trans.0) where
  -- a row says that its transaction is unended
  pub is_unended-row : is_unended log r.trans.0 ≡ true
  is_unended-row = sym (is_among-table_of log r.trans.0) ∙ ap (is_among (numbers (table_of log))) (sym here) ∙ among_at r (table_of log) i d lt

  pub table_of-set : is_transactional r.body ≡ true → is_end r.body ≡ false → table_of (log ++ r ∷ []) ≡ set (table_of log) i (row_after (get_or (table_of log) i d) r)
  table_of-set w e = table_of-more log r w e is_unended-row ∙ with_record-set r (table_of log) i d (Apart-table_of log) lt here

  pub table_of-remove : is_transactional r.body ≡ true → is_end r.body ≡ true → table_of (log ++ r ∷ []) ≡ remove (table_of log) i
  table_of-remove w e = table_of-end log r w e (has_begun-unended log r.trans.0 is_unended-row) ∙ other_rows-remove r (table_of log) i d (Apart-table_of log) lt here

-- ---- what a row's state says

abbrev pub is_committed_state : TransactionState → Bool
is_committed_state Committed = true
is_committed_state _ = false

abbrev pub is_rolling_state : TransactionState → Bool
is_rolling_state RollingBack = true
is_rolling_state _ = false

pub is_committed-state : (log : List Record) (t : ℕ) → is_committed log t ≡ is_committed_state (state_of log t)
unfolding state_of
is_committed-state log t = go (is_committed log t) (has_rollback log t) (has_prepare log t)
  where
    go : (c h p : Bool) → c ≡ is_committed_state (cond c Committed (cond h RollingBack (cond p Prepared Active)))
    go true h p = refl
    go false true p = refl
    go false false true = refl
    go false false false = refl

pub has_rollback-state : (log : List Record) (t : ℕ) → (has_rollback log t && not (is_committed log t)) ≡ is_rolling_state (state_of log t)
unfolding state_of
has_rollback-state log t = go (is_committed log t) (has_rollback log t) (has_prepare log t)
  where
    go : (c h p : Bool) → (h && not c) ≡ is_rolling_state (cond c Committed (cond h RollingBack (cond p Prepared Active)))
    go true true p = refl
    go true false p = refl
    go false true p = refl
    go false false true = refl
    go false false false = refl
