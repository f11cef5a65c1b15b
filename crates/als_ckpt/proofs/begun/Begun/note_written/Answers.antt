use Rattle.std.proofs.Common.{arith, length}
use Rattle.als_ckpt.proofs.RegionLaws.{blocks_for-few}
use Rattle.als_ckpt.proofs.begun.Begun.note_written.Goals as goal

pub overflow_add-self : goal.overflow_add-self
overflow_add-self c = omega (arith, c.self.invariant.within, blocks_for-few (length c.self.inside.bytes.items) c.self.invariant.few)
