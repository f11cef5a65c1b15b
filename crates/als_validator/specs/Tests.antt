-- The causes of one transaction, as tests of its state, of its newest surviving update and of a record's body.
use Rattle.std.specs.Prelude.{ℕ, ◌==◌, Bool, true, false, not, ◌&&◌, ◌||◌, Option, Some, None}
use Rattle.als_record.specs.declared.record.Body.{Body}
use Rattle.als_record.specs.declared.record.Body.TheVariants.{Compensation}
use Rattle.als_record.specs.declared.record.Record.{Record}
use Rattle.als_record.specs.declared.transaction_state.TransactionState.{TransactionState}
use Rattle.als_record.specs.declared.transaction_state.TransactionState.TheVariants.{Active, Committed, RollingBack, Prepared}
use Rattle.als_record.specs.declared.transaction_row.TransactionRow.{TransactionRow}
use Rattle.als_record.specs.Transactions.{is_end, is_decision}
use Rattle.als_record.specs.Images.{same_image, is_update_at, image_before}
use Rattle.als_record.specs.Validity.{is_forward}

-- the state of a row, that of a transaction to be without one
abbrev pub state_in : Option TransactionRow → TransactionState
state_in None = Active
state_in (Some row) = row.state

-- LastLSN of a row, 0 without one
abbrev pub last_in : Option TransactionRow → ℕ
last_in None = 0
last_in (Some row) = row.last.0

-- whether an unended transaction in a state is open
abbrev pub goes_on : TransactionState → Bool
goes_on Committed = false
goes_on _ = true

-- what a transaction in a state may not write: `left` says whether an update of it survives
abbrev pub barred : TransactionState → Bool → Body → Bool
barred Committed left body = not (is_end body)
barred RollingBack left body = is_forward body || (is_end body && left)
barred Prepared left body = not (is_decision body)
barred Active left body = is_end body && left

-- a compensation that does not go on where the newest surviving update says
abbrev pub skips : Option Record → Body → Bool
skips (Some u) (Compensation undo_next key after) = not (undo_next.0 == u.prev.0)
skips _ _ = false

-- a compensation that does not undo the newest surviving update
abbrev pub misses : Option Record → Body → Bool
misses None (Compensation undo_next key after) = true
misses (Some u) (Compensation undo_next key after) = not (is_update_at key u.body && same_image after (image_before u.body))
misses _ _ = false
