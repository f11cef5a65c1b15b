use Rattle.std.proofs.Common.{ℕ, ◌≤◌, List, length, subst, arith}
use Rattle.als_ckpt.specs.Regions.{blocks_for}
use Rattle.als_ckpt.proofs.RegionLaws.{blocks_for-few}
use Rattle.als_ckpt.proofs.begun.Begun.new.Goals as goal

pub returns-clause-few : goal.returns-clause-few
returns-clause-few c =
    rw c.of-kept.ensures (subst (λ (xs : List ℕ). blocks_for (length xs) ≤ 160) c.in_ok-bytes.ensures.ok (blocks_for-few (length c.in_ok-bytes.bytes.items) (omega (arith, c.in_ok-bytes.ensures.len))))
