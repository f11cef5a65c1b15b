-- The transaction table, and the log of which it is the table.
use Rattle.std.specs.Prelude.{◌≡◌, ℕ, ◌%◌, ◌^◌, ◌<◌, true, IsTrue, if◌then◌else◌, List, [], ◌∷◌, ◌++◌, length, map, slice_index, Option, Some, None}
use Rattle.std.specs.List.{sum_by}
use Rattle.als_record.specs.declared.lsn.Lsn.{Lsn}
use Rattle.als_record.specs.declared.record.Record.{Record}
use Rattle.als_record.specs.declared.transaction_row.TransactionRow.{TransactionRow}
use Rattle.als_record.specs.Transactions.{is_unended, to_undo, surviving, undo_next_of, unended}
use Rattle.als_record.specs.Table.{row_of, table_of}
use Rattle.als_record.specs.Validity.{may_follow}
use Rattle.als_analysis.specs.declared.open_row.OpenRow.{OpenRow}
use Rattle.als_analysis.specs.Open.{undo_len}

-- a row for each transaction that has not ended, beside each the number of its surviving updates and the bytes that are counted of it
pub record Table : Type 0 where
  pub rows : List TransactionRow
  pub left : List ℕ
  pub bytes : List ℕ

-- how many updates of a transaction survive
abbrev pub survivor_count : List Record → ℕ → ℕ
survivor_count log t = length (to_undo log t)

-- the bytes of the compensations that undo what survives of a transaction
abbrev pub undo_bytes : List Record → ℕ → ℕ
undo_bytes log t = sum_by undo_len (surviving log t)

-- The table is that of the log: a row for each unended transaction, and beside it the number of its surviving updates and the bytes of their
-- compensations. Both are counted modulo 2^64, which is exact for a log that a device holds.
pub record IsTableOf (table : Table) (log : List Record) : Type 0 where
  pub rows : table.rows ≡ table_of log
  pub left : table.left ≡ map (λ t. survivor_count log t % 2 ^ 64) (unended log)
  pub bytes : table.bytes ≡ map (λ t. undo_bytes log t % 2 ^ 64) (unended log)

-- what holds of each log of the table with one more record, where that may follow
abbrev pub WithRecord : Table → Record → (List Record → Type 0) → Type 0
WithRecord table r P = (log : List Record) → IsTableOf table log → IsTrue (may_follow log r) → P (log ++ r ∷ [])

-- the second table is that of the log of the first one with one more record
abbrev pub GoesOn : Table → Record → Table → Type 0
GoesOn old r new = WithRecord old r (IsTableOf new)

-- UndoNxtLSN of an unended transaction
abbrev pub undo_next_in : List Record → ℕ → Option Lsn
undo_next_in log t = if is_unended log t then Some (record { 0 = undo_next_of log t }) else None

-- what is kept of an unended transaction of the log
pub record IsOpenOf (kept : OpenRow) (log : List Record) (t : ℕ) : Type 0 where
  pub unended : is_unended log t ≡ true
  pub row : kept.row ≡ row_of log t
  pub left : kept.left ≡ survivor_count log t % 2 ^ 64

-- the row of an unended transaction of the log stands at a place of the table
pub record StandsAt (log : List Record) (t at : ℕ) : Type 0 where
  pub is_open : is_unended log t ≡ true
  pub within : at < length (unended log)
  pub here : slice_index (unended log) at ≡ t
