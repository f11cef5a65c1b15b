use Rattle.als_ckpt.proofs.RegionLaws.{IsBegun-spelled}
use Rattle.als_ckpt.proofs.begun.Begun.is_whole.Goals as goal

pub returns-clause-facts : goal.returns-clause-facts
returns-clause-facts c = rw (← c.self.view_is) (IsBegun-spelled _ _ _ _ _ _ c.self.invariant)
