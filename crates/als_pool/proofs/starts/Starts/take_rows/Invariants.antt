use Rattle.std.proofs.Common.{◌≡◌, drop}
use Rattle.std.specs.List.{fold}
use Rattle.als_pool.specs.Restart.{with_row}
use Rattle.als_pool.proofs.starts.Starts.take_rows.Given as goal

abbrev pub invariant-loop-row : goal.invariant-loop-row
invariant-loop-row l = record {
  told : fold with_row l.fn.self l.rows ≡ fold with_row l.self (drop l.row-index l.rows);
}
