use Rattle.std.proofs.Common.{◌≡◌, ℕ, List, length, true}
use Rattle.std.specs.List.{sum_by}
use Rattle.als_record.specs.Validity.{is_valid}
use Rattle.als_takeover.specs.Next.{AreCursors}
use Rattle.als_takeover.proofs.undo.newest_of.Given as goal

-- The cursors stay on the chains, and the log stays as it is.
abbrev pub invariant-chains : goal.invariant-chains
invariant-chains g l = record {
  chains : (ts : List ℕ) → is_valid l.fn.log.log ≡ true → length ts ≡ l.fn.count → AreCursors l.fn.log.log ts l.fn.cursors → AreCursors l.fn.log.log ts l.cursors;
  same : l.log ≡ l.fn.log;
}

abbrev pub decreases-chains : goal.decreases-chains
decreases-chains g l = sum_by (λ n. n) l.cursors
