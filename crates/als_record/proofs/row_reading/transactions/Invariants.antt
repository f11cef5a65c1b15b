use Rattle.std.proofs.Common.{◌≡◌, ◌+◌, ◌-◌, ◌*◌, ◌≤◌, ◌++◌, length}
use Rattle.als_record.specs.Reading.{transactions_at}
use Rattle.als_record.proofs.row_reading.transactions.Given as goal

abbrev pub invariant-loop : goal.invariant-loop
invariant-loop l = record {
  told : l.rows ++ transactions_at (l.count - l.counter) l.rest ≡ transactions_at l.count l.bytes;
  size : 21 * l.count ≤ length l.rest + 21 * l.counter;
  len : length l.rows ≡ l.counter;
}
