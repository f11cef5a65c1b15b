-- The entry of a transaction with one more record of the transaction: what is kept of the table, and what it shows.
use Rattle.std.proofs.Common.{◌≡◌, ℕ, ◌+◌, ◌-◌, ◌%◌, ◌^◌, ◌<◌, true, false, List, length, get_or, set, refl, sym, ap, ◌∙◌}
use Rattle.std.proofs.lemmas.Bool.{false≢true}
use Rattle.std.proofs.lemmas.List.{get_or-map, map-set}
use Rattle.als_record.specs.declared.record.Body.{Body}
use Rattle.als_record.specs.declared.record.Body.TheVariants.{Update, Compensation, Commit, Rollback, End, BeginCheckpoint, EndCheckpoint, Prepare}
use Rattle.als_record.specs.declared.record.Record.{Record}
use Rattle.als_record.specs.declared.transaction_row.TransactionRow.{TransactionRow}
use Rattle.als_record.specs.Transactions.{is_transactional, is_end, is_update}
use Rattle.als_record.specs.Table.{row_of, row_after}
use Rattle.als_analysis.specs.declared.open_row.OpenRow.{OpenRow}
use Rattle.als_analysis.specs.Open.{owed, rows_of, left_of, bytes_of, count_after, bytes_after, open_after}
use Rattle.als_analysis.specs.Kept.{IsKept}
use Rattle.als_analysis.specs.Noted.{Table, IsTableOf, StandsAt}
use Rattle.als_analysis.proofs.KeptSteps.{kept-set}
use Rattle.als_analysis.proofs.LogSteps.{row-standing}

-- an update belongs to a transaction, and does not end it
pub update-own : (b : Body) → is_update b ≡ true → is_transactional b ≡ true
update-own (Update key before after) e = refl
update-own (Compensation undo_next key after) e = absurd (false≢true e)
update-own Commit e = absurd (false≢true e)
update-own Rollback e = absurd (false≢true e)
update-own End e = absurd (false≢true e)
update-own BeginCheckpoint e = absurd (false≢true e)
update-own (EndCheckpoint rows pages) e = absurd (false≢true e)
update-own Prepare e = absurd (false≢true e)

pub update-no_end : (b : Body) → is_update b ≡ true → is_end b ≡ false
update-no_end (Update key before after) e = refl
update-no_end (Compensation undo_next key after) e = refl
update-no_end Commit e = refl
update-no_end Rollback e = refl
update-no_end End e = absurd (false≢true e)
update-no_end BeginCheckpoint e = refl
update-no_end (EndCheckpoint rows pages) e = refl
update-no_end Prepare e = refl

-- the row at the place where a transaction stands is its own
pub trans-standing : (log : List Record) (table : Table) (i t : ℕ) (d : TransactionRow) → IsTableOf table log → StandsAt log t i → (get_or table.rows i d).trans.0 ≡ t
unfolding row_of
trans-standing log table i t d h s = ap (λ rows. (get_or rows i d).trans.0) h.rows ∙ ap (λ (row : TransactionRow). row.trans.0) (row-standing log i t d s)

module _ (xs : List OpenRow) (i : ℕ) (e o : OpenRow) (r : Record) (lt : i < length xs) (here : e ≡ get_or xs i e) (next : o ≡ open_after e r) where
  pub kept-more : (reserve capacity had has : ℕ) → IsKept xs reserve capacity → had ≡ owed e % 2 ^ 64 → has ≡ owed o % 2 ^ 64 → IsKept (set xs i o) (((reserve + (2 ^ 64 - had)) % 2 ^ 64 + has) % 2 ^ 64) capacity
  kept-more reserve capacity had has k p q =
      let same : o.row.trans.0 ≡ (get_or xs i e).row.trans.0 = ap (λ (x : OpenRow). x.row.trans.0) next ∙ ap (λ (x : OpenRow). x.row.trans.0) here in
      rw (p ∙ ap (λ x. owed x % 2 ^ 64) here, q) (kept-set xs reserve capacity k i e o lt same)

  module _ (t : Table) (d : TransactionRow) (n : ℕ) where
    pub rows-more : rows_of xs ≡ t.rows → rows_of (set xs i o) ≡ set t.rows i (row_after (get_or t.rows i d) r)
    rows-more p =
        map-set (λ (x : OpenRow). x.row) xs i o
        ∙ ap (λ row. set (rows_of xs) i row) (ap (λ (x : OpenRow). x.row) next ∙ ap (λ row. row_after row r) (ap (λ (x : OpenRow). x.row) here ∙ sym (get_or-map (λ (x : OpenRow). x.row) xs i e d lt)))
        ∙ ap (λ rows. set rows i (row_after (get_or rows i d) r)) p

    pub left-more : left_of xs ≡ t.left → left_of (set xs i o) ≡ set t.left i (count_after (get_or t.left i n) r.body)
    left-more p =
        map-set (λ (x : OpenRow). x.left) xs i o
        ∙ ap (λ m. set (left_of xs) i m) (ap (λ (x : OpenRow). x.left) next ∙ ap (λ m. count_after m r.body) (ap (λ (x : OpenRow). x.left) here ∙ sym (get_or-map (λ (x : OpenRow). x.left) xs i e n lt)))
        ∙ ap (λ left. set left i (count_after (get_or left i n) r.body)) p

    pub bytes-more : bytes_of xs ≡ t.bytes → bytes_of (set xs i o) ≡ set t.bytes i (bytes_after (get_or t.bytes i n) r.body)
    bytes-more p =
        map-set (λ (x : OpenRow). x.undo_bytes) xs i o
        ∙ ap (λ m. set (bytes_of xs) i m) (ap (λ (x : OpenRow). x.undo_bytes) next ∙ ap (λ m. bytes_after m r.body) (ap (λ (x : OpenRow). x.undo_bytes) here ∙ sym (get_or-map (λ (x : OpenRow). x.undo_bytes) xs i e n lt)))
        ∙ ap (λ bytes. set bytes i (bytes_after (get_or bytes i n) r.body)) p
