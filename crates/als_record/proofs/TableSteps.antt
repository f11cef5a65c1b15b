-- The transaction table with one more record: a row replaced, added at the end, or taken away.
use Rattle.std.proofs.Common.{◌≡◌, ℕ, ◌==◌, Bool, true, false, cond, not, ◌&&◌, ◌||◌, List, [], ◌∷◌, ◌++◌, map, filter, refl, ap, ◌∙◌, inl, inr}
use Rattle.std.proofs.lemmas.Bool.{cases_Bool, or_parts}
use Rattle.std.proofs.lemmas.List.{map_push}
use Rattle.als_record.specs.declared.record.Body.{Body}
use Rattle.als_record.specs.declared.record.Body.TheVariants.{Update, Compensation, Commit, Rollback, End, BeginCheckpoint, EndCheckpoint, Prepare}
use Rattle.als_record.specs.declared.record.Record.{Record}
use Rattle.als_record.specs.declared.transaction_state.TransactionState.TheVariants.{Active, Committed, RollingBack, Prepared}
use Rattle.als_record.specs.declared.transaction_row.TransactionRow.{TransactionRow}
use Rattle.als_record.specs.Transactions.{is_transactional, is_commit, is_rollback, is_end, is_prepare, is_of, has_begun, is_committed, has_rollback, has_prepare, is_unended, last_lsn, unended, is_among}
use Rattle.als_record.specs.Table.{state_of, row_of, table_of, state_after, fresh_row, row_after}
use Rattle.als_record.proofs.Records.{is_committed-own, is_committed-other, has_rollback-own, has_rollback-other, has_prepare-own, has_prepare-other, last_lsn-own, last_lsn-other, undo_next_of-own, undo_next_of-other, is_committed-none, has_rollback-none, has_prepare-none, records_of-none, undo_next_of-none, is_unended-none}
use Rattle.als_record.proofs.Numbers.{without, eqb-refl, eqb-sym}
use Rattle.als_record.proofs.Unended.{unended-checkpoint, unended-more, unended-end, unended-new, unended-new_end, is_among-unended}

module _ (log : List Record) (r : Record) (t : ℕ) where
  pub row_of-other : is_of t r ≡ false → row_of (log ++ r ∷ []) t ≡ row_of log t
  unfolding row_of state_of
  row_of-other o = cc (is_committed-other log r t o, has_rollback-other log r t o, has_prepare-other log r t o, last_lsn-other log r t o, undo_next_of-other log r t o)

  state_step : (c h p : Bool) (b : Body) → cond (c || is_commit b) Committed (cond (h || is_rollback b) RollingBack (cond (p || is_prepare b) Prepared Active)) ≡ state_after (cond c Committed (cond h RollingBack (cond p Prepared Active))) b
  state_step true h p (Update key before after) = refl
  state_step true h p (Compensation undo_next key after) = refl
  state_step true h p Commit = refl
  state_step true h p Rollback = refl
  state_step true h p End = refl
  state_step true h p BeginCheckpoint = refl
  state_step true h p (EndCheckpoint transactions pages) = refl
  state_step true h p Prepare = refl
  state_step false true p (Update key before after) = refl
  state_step false true p (Compensation undo_next key after) = refl
  state_step false true p Commit = refl
  state_step false true p Rollback = refl
  state_step false true p End = refl
  state_step false true p BeginCheckpoint = refl
  state_step false true p (EndCheckpoint transactions pages) = refl
  state_step false true p Prepare = refl
  state_step false false true (Update key before after) = refl
  state_step false false true (Compensation undo_next key after) = refl
  state_step false false true Commit = refl
  state_step false false true Rollback = refl
  state_step false false true End = refl
  state_step false false true BeginCheckpoint = refl
  state_step false false true (EndCheckpoint transactions pages) = refl
  state_step false false true Prepare = refl
  state_step false false false (Update key before after) = refl
  state_step false false false (Compensation undo_next key after) = refl
  state_step false false false Commit = refl
  state_step false false false Rollback = refl
  state_step false false false End = refl
  state_step false false false BeginCheckpoint = refl
  state_step false false false (EndCheckpoint transactions pages) = refl
  state_step false false false Prepare = refl

  pub state_of-own : is_of t r ≡ true → state_of (log ++ r ∷ []) t ≡ state_after (state_of log t) r.body
  unfolding state_of
  state_of-own o = rw (is_committed-own log r t o, has_rollback-own log r t o, has_prepare-own log r t o) (state_step (is_committed log t) (has_rollback log t) (has_prepare log t) r.body)

  pub row_of-own : is_of t r ≡ true → row_of (log ++ r ∷ []) t ≡ row_after (row_of log t) r
  unfolding row_of
  row_of-own o = rw (state_of-own o, last_lsn-own log r t o, undo_next_of-own log r t o) refl

pub row_of-none : (log : List Record) (t : ℕ) → has_begun log t ≡ false → row_of log t ≡ fresh_row t
unfolding row_of state_of last_lsn
row_of-none log t n = rw (is_committed-none log t n, has_rollback-none log t n, has_prepare-none log t n, records_of-none log t n, undo_next_of-none log t n) refl

-- a transaction's row bears its number
pub row_of-trans : (log : List Record) (t : ℕ) → (row_of log t).trans.0 ≡ t
unfolding row_of
row_of-trans log t = refl

-- the row of a record's transaction with that record, the others as they are
abbrev pub with_record : Record → TransactionRow → TransactionRow
with_record r row = cond (row.trans.0 == r.trans.0) (row_after row r) row

-- a row of another transaction than the record's
abbrev pub is_row_of_other : Record → TransactionRow → Bool
is_row_of_other r row = not (row.trans.0 == r.trans.0)

module _ (log : List Record) (r : Record) where
  off : (x : ℕ) → (x == r.trans.0) ≡ false → is_of x r ≡ false
  off x e = go (is_transactional r.body) (eqb-sym r.trans.0 x ∙ e)
    where
      go : (w : Bool) → (r.trans.0 == x) ≡ false → (w && (r.trans.0 == x)) ≡ false
      go true e = e
      go false e = refl

  on : is_transactional r.body ≡ true → (x : ℕ) → (x == r.trans.0) ≡ true → is_of x r ≡ true
  on w x e = rw w (eqb-sym r.trans.0 x ∙ e)

  rows_same : (xs : List ℕ) → is_transactional r.body ≡ false → map (row_of (log ++ r ∷ [])) xs ≡ map (row_of log) xs
  rows_same [] w = refl
  rows_same (x ∷ rest) w = let q : row_of (log ++ r ∷ []) x ≡ row_of log x = row_of-other log r x (rw w refl) in cc (rows_same rest w)

  rows_absent : (xs : List ℕ) → is_among xs r.trans.0 ≡ false → map (row_of (log ++ r ∷ [])) xs ≡ map (row_of log) xs
  rows_absent [] n = refl
  rows_absent (x ∷ rest) n =
      let parts : ((x == r.trans.0) ≡ false) × (is_among rest r.trans.0 ≡ false) = or_parts (x == r.trans.0) (is_among rest r.trans.0) n in
      let q : row_of (log ++ r ∷ []) x ≡ row_of log x = row_of-other log r x (off x parts.0) in cc (rows_absent rest parts.1)

  rows_more : is_transactional r.body ≡ true → (xs : List ℕ) → map (row_of (log ++ r ∷ [])) xs ≡ map (with_record r) (map (row_of log) xs)
  unfolding row_of
  rows_more w [] = refl
  rows_more w (x ∷ rest) = cc (rows_more w rest, one)
    where
      one : row_of (log ++ r ∷ []) x ≡ with_record r (row_of log x)
      one = elim (cases_Bool (x == r.trans.0)) [
        | inl e ↦ rw e (row_of-own log r x (on w x e))
        | inr e ↦ rw e (row_of-other log r x (off x e))
      ]

  rows_end : (xs : List ℕ) → map (row_of (log ++ r ∷ [])) (without r.trans.0 xs) ≡ filter (is_row_of_other r) (map (row_of log) xs)
  unfolding row_of
  rows_end [] = refl
  rows_end (x ∷ rest) = elim (cases_Bool (x == r.trans.0)) [
    | inl e ↦ rw e (rows_end rest)
    | inr e ↦ rw e (let q : row_of (log ++ r ∷ []) x ≡ row_of log x = row_of-other log r x (off x e) in cc (rows_end rest))
  ]

  -- a checkpoint's record changes no row
  pub table_of-checkpoint : is_transactional r.body ≡ false → table_of (log ++ r ∷ []) ≡ table_of log
  unfolding table_of
  table_of-checkpoint w = ap (map (row_of (log ++ r ∷ []))) (unended-checkpoint log r w) ∙ rows_same (unended log) w

  -- another record of an unended transaction, not its end
  pub table_of-more : is_transactional r.body ≡ true → is_end r.body ≡ false → is_unended log r.trans.0 ≡ true → table_of (log ++ r ∷ []) ≡ map (with_record r) (table_of log)
  unfolding table_of
  table_of-more w e u = ap (map (row_of (log ++ r ∷ []))) (unended-more log r w e u) ∙ rows_more w (unended log)

  -- its end
  pub table_of-end : is_transactional r.body ≡ true → is_end r.body ≡ true → has_begun log r.trans.0 ≡ true → table_of (log ++ r ∷ []) ≡ filter (is_row_of_other r) (table_of log)
  unfolding table_of
  table_of-end w e b = ap (map (row_of (log ++ r ∷ []))) (unended-end log r w e b) ∙ rows_end (unended log)

  -- a new transaction, by another record than its end, and by its end
  pub table_of-new : is_transactional r.body ≡ true → is_end r.body ≡ false → has_begun log r.trans.0 ≡ false → table_of (log ++ r ∷ []) ≡ table_of log ++ row_after (fresh_row r.trans.0) r ∷ []
  unfolding table_of
  table_of-new w e n =
      ap (map (row_of (log ++ r ∷ []))) (unended-new log r w e n)
      ∙ map_push (row_of (log ++ r ∷ [])) (unended log) r.trans.0
      ∙ ap (λ rows. rows ++ row_of (log ++ r ∷ []) r.trans.0 ∷ []) (rows_absent (unended log) (is_among-unended log r.trans.0 ∙ is_unended-none log r.trans.0 n))
      ∙ ap (λ row. map (row_of log) (unended log) ++ row ∷ []) (row_of-own log r r.trans.0 (on w r.trans.0 (eqb-refl r.trans.0)) ∙ ap (λ row. row_after row r) (row_of-none log r.trans.0 n))

  pub table_of-new_end : is_transactional r.body ≡ true → is_end r.body ≡ true → has_begun log r.trans.0 ≡ false → table_of (log ++ r ∷ []) ≡ table_of log
  unfolding table_of
  table_of-new_end w e n = ap (map (row_of (log ++ r ∷ []))) (unended-new_end log r w e n) ∙ rows_absent (unended log) (is_among-unended log r.trans.0 ∙ is_unended-none log r.trans.0 n)
