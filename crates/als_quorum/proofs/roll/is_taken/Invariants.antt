use Rattle.std.proofs.Common.{◌≡◌, ◌<◌, ℕ, Some, None, get_or}
use Rattle.als_quorum.specs.declared.row.Row.{Row}
use Rattle.als_quorum.proofs.roll.is_taken.Given as goal

-- no row before this one has the id
abbrev pub invariant-loop-row : goal.invariant-loop-row
invariant-loop-row l = (k : ℕ) → k < l.row-index → (own : Row) → get_or l.rows k None ≡ Some own → own.id ≡ Some l.id → ⊥
