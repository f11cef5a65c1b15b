-- What is kept of a transaction that has not ended: its row, how many updates of it survive, and the bytes of the compensations that undo them, both as
-- they were counted from record to record, modulo 2^64.
use Rattle.std.specs.Prelude.{ℕ, ◌+◌, ◌-◌, ◌%◌, ◌^◌, List, map}
use Rattle.als_record.specs.declared.record.Body.{Body}
use Rattle.als_record.specs.declared.record.Body.TheVariants.{Update, Compensation}
use Rattle.als_record.specs.declared.record.Record.{Record}
use Rattle.als_record.specs.declared.transaction_state.TransactionState.{TransactionState}
use Rattle.als_record.specs.declared.transaction_state.TransactionState.TheVariants.{Committed, Prepared}
use Rattle.als_record.specs.declared.transaction_row.TransactionRow.{TransactionRow}
use Rattle.als_record.specs.Spelling.{image_len}
use Rattle.als_record.specs.Images.{image_before}
use Rattle.als_record.specs.Table.{state_after, row_after, fresh_row}
use Rattle.als_analysis.specs.declared.open_row.OpenRow.{OpenRow}

-- The number of surviving updates after one more record: one more after an update, one less after a compensation.
abbrev pub count_after : ℕ → Body → ℕ
count_after left (Update key before after) = (left + 1) % 2 ^ 64
count_after left (Compensation undo_next key after) = (left + (2 ^ 64 - 1)) % 2 ^ 64
count_after left _ = left

-- the length of the compensation that undoes an update
abbrev pub undo_len : Record → ℕ
undo_len u = 42 + image_len (image_before u.body)

-- The bytes of the compensations to come after one more record: the compensation of an update comes to them, one that is written goes from them by its own
-- length. Of any record, and so modulo 2^64.
abbrev pub bytes_after : ℕ → Body → ℕ
bytes_after bytes (Update key before after) = (bytes + (42 + image_len before)) % 2 ^ 64
bytes_after bytes (Compensation undo_next key after) = (bytes + (2 ^ 64 - (42 + image_len after) % 2 ^ 64)) % 2 ^ 64
bytes_after bytes _ = bytes

-- the bytes that may come before a transaction's end: the compensations, and of a prepared one its decision first; none of a committed one
abbrev pub undo_owed : TransactionState → ℕ → ℕ
undo_owed Committed bytes = 0
undo_owed Prepared bytes = 28 + bytes
undo_owed _ bytes = bytes

-- the bytes that a takeover, or a decision of a prepared transaction, may append for a transaction, its end with them
abbrev pub owed : OpenRow → ℕ
owed o = 28 + undo_owed o.row.state o.undo_bytes

-- the same after one more record of the transaction, which is not its end
abbrev pub owed_after : TransactionState → ℕ → Body → ℕ
owed_after state bytes body = 28 + undo_owed (state_after state body) (bytes_after bytes body)

-- what is kept of a transaction without a record, and after one more record
abbrev pub fresh_open : ℕ → OpenRow
fresh_open t = record { row = fresh_row t; left = 0; undo_bytes = 0 }

abbrev pub open_after : OpenRow → Record → OpenRow
open_after o r = record { row = row_after o.row r; left = count_after o.left r.body; undo_bytes = bytes_after o.undo_bytes r.body }

-- the rows of transactions
abbrev pub rows_of : List OpenRow → List TransactionRow
rows_of entries = map (λ o. o.row) entries

-- the number of surviving updates of each
abbrev pub left_of : List OpenRow → List ℕ
left_of entries = map (λ o. o.left) entries

-- the bytes that are counted of each
abbrev pub bytes_of : List OpenRow → List ℕ
bytes_of entries = map (λ o. o.undo_bytes) entries
