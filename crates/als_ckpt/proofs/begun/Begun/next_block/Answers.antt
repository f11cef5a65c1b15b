use Rattle.std.proofs.Common.{arith, length}
use Rattle.als_ckpt.proofs.RegionLaws.{blocks_for-few, first_block-few, IsBegun-spelled}
use Rattle.als_ckpt.proofs.begun.Begun.next_block.Goals as goal

pub overflow_add-place : goal.overflow_add-place
overflow_add-place c = omega (arith, c.first_block.ensures, first_block-few c.self.inside.region, c.self.invariant.within, blocks_for-few (length c.self.inside.bytes.items) c.self.invariant.few)

pub returns-clause-facts : goal.returns-clause-facts
returns-clause-facts c = rw (← c.self.view_is) (IsBegun-spelled _ _ _ _ _ _ c.self.invariant)
