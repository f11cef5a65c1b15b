-- What a takeover would append after one more record, as the entries of the table say before it is noted.
use Rattle.std.proofs.Common.{◌≡◌, ℕ, ◌+◌, ◌%◌, ◌^◌, ◌<◌, true, false, List, [], ◌∷◌, ◌++◌, length, get_or, set, refl, sym, ap, ◌∙◌, arith}
use Rattle.std.specs.List.{sum_by, remove}
use Rattle.std.proofs.lemmas.List.{get_or-map, length-map, map-set, map_push}
use Rattle.std.proofs.lemmas.List.Sums.{sum_by_push, sum_by-set, sum_by-remove}
use Rattle.als_record.specs.declared.record.Record.{Record}
use Rattle.als_record.specs.declared.transaction_state.TransactionState.TheVariants.{Active}
use Rattle.als_record.specs.declared.transaction_row.TransactionRow.{TransactionRow}
use Rattle.als_record.specs.Transactions.{is_transactional, is_end, is_among}
use Rattle.als_record.specs.Table.{row_after, fresh_row}
use Rattle.als_record.specs.Tail.{reserve_of}
use Rattle.als_record.specs.Validity.{may_follow}
use Rattle.als_record.proofs.TableRows.{numbers}
use Rattle.als_analysis.specs.declared.open_row.OpenRow.{OpenRow}
use Rattle.als_analysis.specs.Open.{count_after, bytes_after, owed, owed_after, fresh_open, open_after, rows_of, bytes_of}
use Rattle.als_analysis.specs.Noted.{Table, IsTableOf}
use Rattle.als_analysis.proofs.KeptSteps.{remove-map}
use Rattle.als_analysis.proofs.LogSteps.{step-checkpoint, step-more, step-end, step-new, step-new_end}
use Rattle.als_analysis.proofs.ReserveSum.{owed-reserve}

-- a place of the rows is a place of the entries
pub place : (entries : List OpenRow) (t : Table) (i : ℕ) → rows_of entries ≡ t.rows → i < length t.rows → i < length entries
place entries t i p within = let n : length (rows_of entries) ≡ length entries = length-map entries (λ o. o.row) in let m : length (rows_of entries) ≡ length t.rows = ap length p in omega arith

-- what the entries owe once one of them owes another number of bytes
pub record Owes (log : List Record) (sum before after : ℕ) : Type 0 where
  pub new : ℕ
  pub is : new + before ≡ sum + after
  pub reserve : new % 2 ^ 64 ≡ reserve_of log % 2 ^ 64

module _ (log : List Record) (r : Record) (old : Table) (entries : List OpenRow) (h : IsTableOf old log) (p : rows_of entries ≡ old.rows) (q : bytes_of entries ≡ old.bytes) where
  pub after-checkpoint : is_transactional r.body ≡ false → sum_by owed entries % 2 ^ 64 ≡ reserve_of (log ++ r ∷ []) % 2 ^ 64
  after-checkpoint w = let t : IsTableOf old (log ++ r ∷ []) = step-checkpoint log r old old h w refl refl refl in owed-reserve (log ++ r ∷ []) entries (p ∙ t.rows) (q ∙ t.bytes)

  module _ (w : is_transactional r.body ≡ true) (m : may_follow log r ≡ true) where
    module _ (i : ℕ) (d : TransactionRow) (x : OpenRow) (within : i < length old.rows) (at : (get_or old.rows i d).trans.0 ≡ r.trans.0) where
      lt : i < length entries
      lt = place entries old i p within

      pub after-end : is_end r.body ≡ true → Owes (log ++ r ∷ []) (sum_by owed entries) (owed (get_or entries i x)) 0
      after-end e =
          let new : Table = record { rows = remove old.rows i; left = remove old.left i; bytes = remove old.bytes i } in
          let t : IsTableOf new (log ++ r ∷ []) = step-end log r old new h w m i d within at e refl refl refl in
          let rows : rows_of (remove entries i) ≡ remove old.rows i = sym (remove-map (λ (o : OpenRow). o.row) entries i lt) ∙ ap (λ rows. remove rows i) p in
          let bytes : bytes_of (remove entries i) ≡ remove old.bytes i = sym (remove-map (λ (o : OpenRow). o.undo_bytes) entries i lt) ∙ ap (λ bytes. remove bytes i) q in
          let s : sum_by owed (remove entries i) + owed (get_or entries i x) ≡ sum_by owed entries = sum_by-remove owed entries i x lt in
          record { new = sum_by owed (remove entries i); is = omega arith; reserve = owed-reserve (log ++ r ∷ []) (remove entries i) (rows ∙ t.rows) (bytes ∙ t.bytes) }

      pub after-more : is_end r.body ≡ false → Owes (log ++ r ∷ []) (sum_by owed entries) (owed (get_or entries i x)) (owed_after (get_or entries i x).row.state (get_or entries i x).undo_bytes r.body)
      after-more e =
          let o : OpenRow = open_after (get_or entries i x) r in
          let new : Table = record { rows = set old.rows i (row_after (get_or old.rows i d) r); left = set old.left i (count_after (get_or old.left i 0) r.body); bytes = set old.bytes i (bytes_after (get_or old.bytes i 0) r.body) } in
          let t : IsTableOf new (log ++ r ∷ []) = step-more log r old new h w m i d within at e refl refl refl in
          let rows : rows_of (set entries i o) ≡ new.rows =
          map-set (λ (o : OpenRow). o.row) entries i o
          ∙ ap (λ row. set (rows_of entries) i (row_after row r)) (sym (get_or-map (λ (o : OpenRow). o.row) entries i x d lt))
          ∙ ap (λ rows. set rows i (row_after (get_or rows i d) r)) p in
          let bytes : bytes_of (set entries i o) ≡ new.bytes =
          map-set (λ (o : OpenRow). o.undo_bytes) entries i o
          ∙ ap (λ n. set (bytes_of entries) i (bytes_after n r.body)) (sym (get_or-map (λ (o : OpenRow). o.undo_bytes) entries i x 0 lt))
          ∙ ap (λ bytes. set bytes i (bytes_after (get_or bytes i 0) r.body)) q in
          record { new = sum_by owed (set entries i o); is = sum_by-set owed entries i o x lt; reserve = owed-reserve (log ++ r ∷ []) (set entries i o) (rows ∙ t.rows) (bytes ∙ t.bytes) }

    module _ (absent : is_among (numbers old.rows) r.trans.0 ≡ false) where
      pub after-new_end : is_end r.body ≡ true → sum_by owed entries % 2 ^ 64 ≡ reserve_of (log ++ r ∷ []) % 2 ^ 64
      after-new_end e = let t : IsTableOf old (log ++ r ∷ []) = step-new_end log r old old h w m absent e refl refl refl in owed-reserve (log ++ r ∷ []) entries (p ∙ t.rows) (q ∙ t.bytes)

      pub after-new : is_end r.body ≡ false → (sum_by owed entries + owed_after Active 0 r.body) % 2 ^ 64 ≡ reserve_of (log ++ r ∷ []) % 2 ^ 64
      after-new e =
          let o : OpenRow = open_after (fresh_open r.trans.0) r in
          let new : Table = record { rows = old.rows ++ row_after (fresh_row r.trans.0) r ∷ []; left = old.left ++ count_after 0 r.body ∷ []; bytes = old.bytes ++ bytes_after 0 r.body ∷ [] } in
          let t : IsTableOf new (log ++ r ∷ []) = step-new log r old new h w m absent e refl refl refl in
          let rows : rows_of (entries ++ o ∷ []) ≡ new.rows = map_push (λ (o : OpenRow). o.row) entries o ∙ ap (λ rows. rows ++ row_after (fresh_row r.trans.0) r ∷ []) p in
          let bytes : bytes_of (entries ++ o ∷ []) ≡ new.bytes = map_push (λ (o : OpenRow). o.undo_bytes) entries o ∙ ap (λ bytes. bytes ++ bytes_after 0 r.body ∷ []) q in
          let s : sum_by owed (entries ++ o ∷ []) ≡ sum_by owed entries + owed o = sum_by_push owed entries o in
          ap (λ n. n % 2 ^ 64) (sym s) ∙ owed-reserve (log ++ r ∷ []) (entries ++ o ∷ []) (rows ∙ t.rows) (bytes ∙ t.bytes)
