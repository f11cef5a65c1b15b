use Rattle.std.proofs.Common.{◌≡◌, ◌≤◌, ◌<◌, ℕ, List, length}
use Rattle.std.specs.Io.KnownBytes.{Consumes}
use Rattle.als_compare.specs.Summaries.{Sums}
use Rattle.als_backup.proofs.reading.sum_front.Given as goal

abbrev pub invariant-loop : goal.invariant-loop
invariant-loop g l = record {
  sums : (front : List ℕ) × Sums l.summing front × Consumes (g.R.Read.remaining l.fn.reader) (g.R.Read.remaining l.reader) front;
  below : l.summing.end ≤ l.count;
  room : 0 < length l.piece;
}
