use Rattle.std.proofs.Common.{◌≡◌, ◌≤◌, ◌<◌, ℕ, false, get_or}
use Rattle.als_analysis.specs.declared.open_row.OpenRow.{OpenRow}
use Rattle.als_takeover.specs.Next.{is_over, cursor_in}
use Rattle.als_takeover.proofs.undo.turn_of.Given as goal

abbrev pub invariant-loop-at : goal.invariant-loop-at
invariant-loop-at l = record {
  none : (d : OpenRow) (k : ℕ) → k < l.at → is_over (get_or l.rows k d) ≡ false;
  below : (d : OpenRow) (k : ℕ) → k < l.at → cursor_in (get_or l.rows k d).row ≤ l.top;
  start : l.at ≡ 0 → (l.greatest ≡ 0) × (l.top ≡ 0);
  is : 0 < l.at → (l.greatest < l.at) × ((d : OpenRow) → cursor_in (get_or l.rows l.greatest d).row ≡ l.top);
}
