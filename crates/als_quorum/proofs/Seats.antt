-- What stands in one seat.
use Rattle.std.proofs.Common.{◌≡◌, ◌↔◌, ℕ, Bool, true, false, IsTrue, List, Option, Some, subst}
use Rattle.als_callers.specs.declared.block.Block.{Block}
use Rattle.als_quorum.specs.declared.row.Row.{Row}
use Rattle.als_quorum.specs.declared.wanted.Wanted.{Wanted}
use Rattle.als_quorum.specs.Enough.{Vouches}

-- a seat has one row
same_row : (seat : Option Row) (own other : Row) → seat ≡ Some own → seat ≡ Some other → other ≡ own
same_row seat own other e f = cc

apart : (b : Bool) → b ≡ false → b ≡ true → ⊥
apart b f t = cc

-- where the row of a seat does not vouch, no row of the seat does
pub silent : (blocks : List Block) (wanted : Wanted) (seat : Option Row) (own other : Row) (b : Bool)
    → (IsTrue b ↔ Vouches blocks wanted own) → b ≡ false → seat ≡ Some own → seat ≡ Some other → Vouches blocks wanted other → ⊥
silent blocks wanted seat own other b h silence e f v = apart b silence (h.1 (subst (Vouches blocks wanted) (same_row seat own other e f) v))

pub never : (b : Bool) → b ≡ false → IsTrue b → ⊥
never b f t = apart b f t
