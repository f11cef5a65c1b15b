-- The transaction table: what the analysis pass of ARIES makes of a log from its first record (Mohan et al., TODS 1992,
-- sections 4.3 and 6.1).
use Rattle.std.specs.Prelude.{ℕ, Bool, true, false, ◌&&◌, List, [], ◌∷◌, map, if◌then◌else◌}
use Rattle.als_record.specs.declared.record.Body.{Body}
use Rattle.als_record.specs.declared.record.Body.TheVariants.{Commit, Rollback, Prepare}
use Rattle.als_record.specs.declared.record.Record.{Record}
use Rattle.als_record.specs.declared.transaction_state.TransactionState.{TransactionState}
use Rattle.als_record.specs.declared.transaction_state.TransactionState.TheVariants.{Active, Committed, RollingBack, Prepared}
use Rattle.als_record.specs.declared.transaction_row.TransactionRow.{TransactionRow}
use Rattle.als_record.specs.Transactions.{is_committed, has_rollback, has_prepare, last_lsn, undo_next_after, undo_next_of, unended}

-- what a transaction is doing: a commit outweighs a rollback, and both a prepare
unfoldable pub state_of : List Record → ℕ → TransactionState
state_of log t = if is_committed log t then Committed else if has_rollback log t then RollingBack else if has_prepare log t then Prepared else Active

-- a transaction's row
unfoldable pub row_of : List Record → ℕ → TransactionRow
row_of log t = record { trans = record { 0 = t }; state = state_of log t; last = record { 0 = last_lsn log t }; undo_next = record { 0 = undo_next_of log t } }

-- the table: a row for each unended transaction. In a valid log the rows stand in rising TransID.
unfoldable pub table_of : List Record → List TransactionRow
table_of log = map (row_of log) (unended log)

abbrev pub is_prepared : TransactionState → Bool
is_prepared Prepared = true
is_prepared _ = false

-- a table of which a takeover has nothing left to do: each row is of a transaction in doubt
unfoldable pub is_closed : List TransactionRow → Bool
is_closed [] = true
is_closed (row ∷ rest) = is_prepared row.state && is_closed rest

-- ---- a row with one more record of its transaction: what the table above becomes, record by record

-- a rollback record, which a committed transaction does not heed
abbrev pub state_after_rollback : TransactionState → TransactionState
state_after_rollback Committed = Committed
state_after_rollback _ = RollingBack

-- a prepare record, which a transaction that has committed or rolls back does not heed
abbrev pub state_after_prepare : TransactionState → TransactionState
state_after_prepare Active = Prepared
state_after_prepare state = state

abbrev pub state_after : TransactionState → Body → TransactionState
state_after state Commit = Committed
state_after state Rollback = state_after_rollback state
state_after state Prepare = state_after_prepare state
state_after state _ = state

-- the row of a transaction without a record
abbrev pub fresh_row : ℕ → TransactionRow
fresh_row t = record { trans = record { 0 = t }; state = Active; last = record { 0 = 0 }; undo_next = record { 0 = 0 } }

abbrev pub row_after : TransactionRow → Record → TransactionRow
row_after row r = record { trans = row.trans; state = state_after row.state r.body; last = r.lsn; undo_next = record { 0 = undo_next_after row.undo_next.0 r.lsn.0 r.body } }
