use Rattle.std.proofs.Common.{◌≡◌, ◌<◌, ℕ, false, get_or}
use Rattle.als_analysis.specs.declared.open_row.OpenRow.{OpenRow}
use Rattle.als_takeover.specs.Next.{is_over}
use Rattle.als_store.proofs.store.tail_own.first_done.Given as goal

-- Each one so far has something to undo, or is in doubt.
abbrev pub invariant-loop-at : goal.invariant-loop-at
invariant-loop-at l = record {
  none : (d : OpenRow) (k : ℕ) → k < l.at → is_over (get_or l.rows k d) ≡ false;
}
