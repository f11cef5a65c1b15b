use Rattle.std.proofs.Common.{◌≡◌, ◌<◌, ℕ, length, get_or}
use Rattle.als_analysis.specs.declared.open_row.OpenRow.{OpenRow}
use Rattle.als_takeover.specs.Next.{cursor_in}
use Rattle.als_takeover.proofs.undo.cursors_of.Given as goal

abbrev pub invariant-loop-at : goal.invariant-loop-at
invariant-loop-at l = record {
  count : length l.cursors ≡ 256;
  copied : (k : ℕ) → k < l.at → (d : OpenRow) → get_or l.cursors k 0 ≡ cursor_in (get_or l.fn.rows k d).row;
}
