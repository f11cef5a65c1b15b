use Rattle.std.proofs.Common.{◌≡◌, ◌≤◌, ◌<◌, ◌-◌, ℕ, [], length}
use Rattle.als_disk.specs.Pieces.{piece_in}
use Rattle.als_disk.proofs.mirror.holding.release.Given as goal

abbrev pub invariant-loop-p : goal.invariant-loop-p
invariant-loop-p l = record {
  within : l.p ≤ l.to;
  kept : (q : ℕ) → l.p ≤ q → piece_in l.pieces.items q ≡ piece_in l.initial.pieces.items q;
  count : length l.pieces.items ≡ length l.initial.pieces.items;
  released : (q : ℕ) → l.from ≤ q → q < l.p → piece_in l.pieces.items q ≡ [];
}

abbrev pub decreases-loop-p : goal.decreases-loop-p
decreases-loop-p l = l.end - l.p
