use Rattle.std.proofs.Common.{◌≡◌, ℕ, ◌++◌, List, length}
use Rattle.std.specs.Io.KnownBytes.{Consumes}
use Rattle.als_lookback.proofs.reading.read_front.Given as goal

-- what was read so far is behind what was there
pub record Came (front : List ℕ) (was : List ℕ) (reads : List ℕ → Type 0) : Type 0 where
  pub more : List ℕ
  pub are : front ≡ was ++ more
  pub read : reads more

abbrev pub invariant-loop : goal.invariant-loop
invariant-loop g l = record {
  came : Came l.front.items l.fn.front.items (Consumes (g.R.Read.remaining l.fn.reader) (g.R.Read.remaining l.reader));
  size : length l.piece ≡ length l.fn.piece;
}
