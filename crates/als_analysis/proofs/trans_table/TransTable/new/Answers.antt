use Rattle.std.proofs.Common.{ap}
use Rattle.als_record.specs.Transactions.{transactions, unended}
use Rattle.als_record.specs.Table.{table_of}
use Rattle.als_analysis.specs.Open.{rows_of, left_of, bytes_of}
use Rattle.als_analysis.proofs.trans_table.TransTable.new.Goals as goal

pub returns : goal.returns
unfolding table_of unended transactions
returns c = record { rows = ap rows_of c.in_ok-with_capacity.ensures.items; left = ap left_of c.in_ok-with_capacity.ensures.items; bytes = ap bytes_of c.in_ok-with_capacity.ensures.items }
