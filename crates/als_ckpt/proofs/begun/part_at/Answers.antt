use Rattle.std.proofs.Common.{arith, length}
use Rattle.als_ckpt.proofs.RegionLaws.{blocks_for-below, padded-cut}
use Rattle.als_ckpt.proofs.begun.part_at.Goals as goal

pub overflow_mul-b : goal.overflow_mul-b
overflow_mul-b c = omega (arith, blocks_for-below (length c.args.bytes.now) c.args.b c.requires.below, c.requires.few)

pub split_at-requires : goal.split_at-requires
split_at-requires c = omega (arith, blocks_for-below (length c.args.bytes.now) c.args.b c.requires.below)

pub returns : goal.returns
returns c = rw c.copy_from_slice.ensures.after (rw (← c.split_at.ensures.back) (padded-cut _ _ c.min.result c.min.ensures c.split_at-2.ensures.front))
