-- The next record of a tail, and what it is made from.
use Rattle.std.specs.Prelude.{◌≡◌, ℕ, ◌≤◌, ◌<◌, ◌%◌, ◌^◌, ◌==◌, Bool, true, false, not, ◌&&◌, ◌||◌, if◌then◌else◌, List, [], ◌∷◌, length, map, slice_index, slice_index_or, find, Option, Some, None}
use Rattle.als_record.specs.declared.lsn.Lsn.{Lsn}
use Rattle.als_record.specs.declared.record.Record.{Record}
use Rattle.als_record.specs.declared.transaction_state.TransactionState.{TransactionState}
use Rattle.als_record.specs.declared.transaction_state.TransactionState.TheVariants.{Active, Committed, RollingBack, Prepared}
use Rattle.als_record.specs.declared.transaction_row.TransactionRow.{TransactionRow}
use Rattle.als_record.specs.LogText.{end_of}
use Rattle.als_record.specs.Tail.{undone}
use Rattle.als_record.specs.Table.{is_prepared, table_of}
use Rattle.als_record.specs.Transactions.{is_some_left, is_loser, to_undo, unended}
use Rattle.als_record.specs.UndoChain.{undo_chain, backwards}
use Rattle.als_record.specs.Validity.{is_valid}
use Rattle.als_analysis.specs.declared.open_row.OpenRow.{OpenRow}
use Rattle.als_analysis.specs.Noted.{survivor_count}
use Rattle.als_analysis.specs.Open.{rows_of, left_of}
use Rattle.als_log.specs.declared.fault.Fault.{Fault}
use Rattle.als_log.specs.declared.fault.Fault.TheVariants.{NothingToDo, LogFull, Device, Memory}
use Rattle.als_log.specs.Local.{Local}
use Rattle.als_log.specs.Outcomes.{ReadFails}

-- the first of these records, if there is one
abbrev pub first_of : List Record → Option Record
first_of [] = None
first_of (r ∷ rest) = Some r

abbrev pub is_committed_state : TransactionState → Bool
is_committed_state Committed = true
is_committed_state Active = false
is_committed_state RollingBack = false
is_committed_state Prepared = false

-- a transaction with nothing to undo: committed, or without a surviving update and not in doubt
abbrev pub is_over : OpenRow → Bool
is_over o = is_committed_state o.row.state || (not (is_prepared o.row.state) && (o.left == 0))

-- where the undo of a transaction goes on: nowhere, which is 0, of one in doubt
abbrev pub cursor_in : TransactionRow → ℕ
cursor_in row = if is_prepared row.state then 0 else row.undo_next.0

-- what a takeover undoes of a transaction: of a loser all that survives of it, of any other nothing
abbrev pub undoing : List Record → ℕ → List Record
undoing log t = if is_loser log t then to_undo log t else []

-- the compensation of an update of a transaction, at the log's end
abbrev pub undo_of : OpenRow → Lsn → Record → Record
undo_of o end u = record { lsn = end; prev = o.row.last; trans = o.row.trans; body = undone u.prev u.body }

-- the undo of the transaction at a place goes on at the greatest LSN
abbrev pub IsTop : List OpenRow → ℕ → Type 0
IsTop rows at = (d : OpenRow) (k : ℕ) → k < length rows → cursor_in (slice_index_or rows k d).row ≤ cursor_in (slice_index_or rows at d).row

-- The transaction at a place is the first with nothing to undo, or there is none and its undo goes on at the greatest LSN.
pub record IsTurn (rows : List OpenRow) (at : ℕ) : Type 0 where
  pub within : at < length rows
  pub over : (d : OpenRow) → is_over (slice_index_or rows at d) ≡ true → find is_over rows ≡ Some (slice_index_or rows at d)
  pub left : (d : OpenRow) → is_over (slice_index_or rows at d) ≡ false → find is_over rows ≡ None
  pub top : (d : OpenRow) → is_over (slice_index_or rows at d) ≡ false → IsTop rows at

-- These rows, with what survives of each, are those of a valid log that ends here, and each has something to undo or is in doubt.
pub record AreUnfinished (log : List Record) (end : ℕ) (rows : List OpenRow) : Type 0 where
  pub valid : is_valid log ≡ true
  pub table : rows_of rows ≡ table_of log
  pub left : left_of rows ≡ map (λ t. survivor_count log t % 2 ^ 64) (unended log)
  pub small : end_of log < 2 ^ 64
  pub at_end : end ≡ end_of log
  pub none_over : find is_over rows ≡ None

-- From its cursor on, the undo chain of each of these transactions meets all that is to be undone of it, and there is something where the cursor
-- is above 0.
pub record AreCursors (log : List Record) (ts cursors : List ℕ) : Type 0 where
  pub chains : (k : ℕ) → k < length ts → undo_chain (slice_index cursors k) (backwards log (slice_index ts k)) ≡ undoing log (slice_index ts k)
  pub some : (k : ℕ) → k < length ts → 0 < slice_index cursors k → is_some_left (undoing log (slice_index ts k)) ≡ true

-- nothing is to be undone of any of these transactions
abbrev pub NoneToUndo : List Record → List ℕ → Type 0
NoneToUndo log ts = (k : ℕ) → k < length ts → undoing log (slice_index ts k) ≡ []

-- the update of the transaction at a place that is to be undone first, above those of all others
pub record IsNewest (log : List Record) (ts : List ℕ) (at : ℕ) (w : Record) : Type 0 where
  pub within : at < length ts
  pub rest : List Record
  pub newest : undoing log (slice_index ts at) ≡ w ∷ rest
  pub top : (j : ℕ) (x : Record) (more : List Record) → j < length ts → undoing log (slice_index ts j) ≡ x ∷ more → x.lsn.0 ≤ w.lsn.0

-- a record could not be read: the device failed, and nothing else has changed
abbrev pub CannotRead : Fault → Local → Local → Type 0
CannotRead Device old new = ReadFails old new
CannotRead Memory old new = ⊥
CannotRead NothingToDo old new = ⊥
CannotRead LogFull old new = ⊥

-- records could not be collected: the device failed, or an allocation failed, and nothing else has changed
abbrev pub CannotCollect : Fault → Local → Local → Type 0
CannotCollect Device old new = ReadFails old new
CannotCollect Memory old new = new ≡ old
CannotCollect NothingToDo old new = ⊥
CannotCollect LogFull old new = ⊥
