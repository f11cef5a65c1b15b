use Rattle.std.proofs.Common.{◌≤◌, ◌<◌, ℕ, get_or}
use Rattle.als_takeover.proofs.undo.greatest_of.Given as goal

abbrev pub invariant-loop-at : goal.invariant-loop-at
invariant-loop-at l = record {
  within : l.greatest < l.at;
  top : (k : ℕ) → k < l.at → get_or l.fn.cursors k 0 ≤ get_or l.fn.cursors l.greatest 0;
}
