use Rattle.std.proofs.Common.{◌≡◌, ◌<◌, ℕ, Some, None, get_or}
use Rattle.als_quorum.specs.Names.{name_of}
use Rattle.als_quorum.specs.Enough.{Vouches}
use Rattle.als_quorum.specs.declared.row.Row.{Row}
use Rattle.als_quorum.proofs.counting.is_vouched.Given as goal

-- no row before this one is of the name and vouches
abbrev pub invariant-loop-row : goal.invariant-loop-row
invariant-loop-row l = (k : ℕ) → k < l.row-index → (own : Row) → get_or l.rows k None ≡ Some own → Vouches l.allowed.blocks.items l.wanted own → name_of own ≡ l.name → ⊥
