use Rattle.std.proofs.Common.{◌≡◌, ℕ, ◌<◌, length, get_or, None}
use Rattle.als_record.specs.Spelling.{Image}
use Rattle.als_lookback.proofs.images.unwritten.Given as goal

abbrev pub invariant-loop : goal.invariant-loop
invariant-loop l = (length l.images.items ≡ l.counter) × ((k : ℕ) (d : Image) → k < length l.images.items → get_or l.images.items k d ≡ None)
