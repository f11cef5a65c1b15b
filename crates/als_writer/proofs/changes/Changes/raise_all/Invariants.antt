use Rattle.std.proofs.Common.{◌≡◌, ℕ, ◌<◌, length, get_or}
use Rattle.als_writer.proofs.changes.Changes.raise_all.Given as goal

abbrev pub invariant-loop-i : goal.invariant-loop-i
invariant-loop-i l = record {
  count : length l.self-inside.bounds.items ≡ length l.fn.self;
  each : (j : ℕ) (d : ℕ) → j < l.i → get_or l.self-inside.bounds.items j d ≡ l.lsn.0;
}
