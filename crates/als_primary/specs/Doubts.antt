-- Which transactions are answered to be in doubt.
use Rattle.std.specs.Prelude.{Bool, List, map, filter}
use Rattle.als_record.specs.declared.transaction_row.TransactionRow.{TransactionRow}
use Rattle.als_record.specs.Table.{is_prepared}
use Rattle.als_asking.specs.declared.doubt.Doubt.{Doubt}

-- the row of a transaction in doubt
abbrev pub is_doubt : TransactionRow → Bool
is_doubt row = is_prepared row.state

-- its number, and the LSN of its last record
abbrev pub doubt_of : TransactionRow → Doubt
doubt_of row = record { trans = row.trans; lsn = row.last }

-- the transactions in doubt of a table, in its order
abbrev pub doubts_of : List TransactionRow → List Doubt
doubts_of rows = map doubt_of (filter is_doubt rows)
