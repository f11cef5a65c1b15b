use Rattle.std.proofs.Common.{◌≡◌, ◌+◌, ◌-◌, ◌*◌, ◌≤◌, ◌++◌, length}
use Rattle.als_record.specs.Reading.{pages_at}
use Rattle.als_record.proofs.row_reading.pages.Given as goal

abbrev pub invariant-loop : goal.invariant-loop
invariant-loop l = record {
  told : l.rows ++ pages_at (l.count - l.counter) l.rest ≡ pages_at l.count l.bytes;
  size : 12 * l.count ≤ length l.rest + 12 * l.counter;
  len : length l.rows ≡ l.counter;
}
