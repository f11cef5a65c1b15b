-- What a tally of a roll says.
use Rattle.std.proofs.Common.{◌≡◌, ◌∙◌, ◌↔◌, ℕ, true, false, IsTrue, List, Option, sym, subst}
use Rattle.als_callers.specs.declared.block.Block.{Block}
use Rattle.als_quorum.specs.declared.row.Row.{Row}
use Rattle.als_quorum.specs.declared.tally.Tally.{Tally}
use Rattle.als_quorum.specs.Enough.{HasEnough}
use Rattle.als_quorum.specs.Tallies.{rows_of, wanted_by, IsTallyOf}

pub tally_of : (blocks : List Block) (tally : Tally) (rows : List (Option Row)) (k lsn : ℕ)
    → rows_of tally ≡ rows → (IsTrue tally.is_enough ↔ HasEnough blocks rows k (wanted_by tally lsn)) → IsTallyOf blocks k lsn tally
tally_of blocks tally rows k lsn same h = (
  (λ yes. subst (λ (r : List (Option Row)). HasEnough blocks r k (wanted_by tally lsn)) (sym same) (h.0 yes)),
  λ no enough.
      let yes : tally.is_enough ≡ true = h.1 (subst (λ (r : List (Option Row)). HasEnough blocks r k (wanted_by tally lsn)) same enough) in
      let both : true ≡ false = sym yes ∙ no in
      cc both,
)
