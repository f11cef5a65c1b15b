use Rattle.std.proofs.Common.{◌≡◌, ◌+◌, ◌*◌, ◌≤◌, ◌++◌, take, vec_len, vec_capacity}
use Rattle.std.specs.List.{flat_map}
use Rattle.als_record.specs.Spelling.{transaction_row}
use Rattle.als_record.proofs.row_writing.append_transactions.Given as goal

abbrev pub invariant-loop-row : goal.invariant-loop-row
invariant-loop-row l = record {
  told : l.out.items ≡ l.fn.out.items ++ flat_map transaction_row (take l.row-index l.rows);
  len : vec_len l.out ≡ vec_len l.fn.out + 21 * l.row-index;
  capacity : vec_capacity l.fn.out ≤ vec_capacity l.out;
}
