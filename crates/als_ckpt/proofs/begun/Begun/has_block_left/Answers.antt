use Rattle.als_ckpt.proofs.RegionLaws.{IsBegun-spelled}
use Rattle.als_ckpt.proofs.begun.Begun.has_block_left.Goals as goal

pub returns-clause-facts : goal.returns-clause-facts
returns-clause-facts c = rw (← c.self.view_is) (IsBegun-spelled _ _ _ _ _ _ c.self.invariant)
