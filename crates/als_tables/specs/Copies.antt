-- The rows of the transaction table, as a checkpoint has them.
use Rattle.std.specs.Prelude.{ℕ, List, map}
use Rattle.als_record.specs.declared.rows.LoggedTransaction.{LoggedTransaction}
use Rattle.als_record.specs.declared.transaction_row.TransactionRow.{TransactionRow}
use Rattle.als_record.specs.declared.transaction_state.TransactionState.{TransactionState}
use Rattle.als_record.specs.declared.transaction_state.TransactionState.TheVariants.{Active, Committed, RollingBack, Prepared}

-- the number of a state
abbrev pub state_number : TransactionState → ℕ
state_number Active = 1
state_number Committed = 2
state_number RollingBack = 3
state_number Prepared = 4

-- a row, as a checkpoint has it
abbrev pub logged_row : TransactionRow → LoggedTransaction
logged_row row = record { trans = row.trans; state = state_number row.state; last = row.last; undo_next = row.undo_next }

-- all rows, in the order of the table
abbrev pub logged_rows : List TransactionRow → List LoggedTransaction
logged_rows rows = map logged_row rows
