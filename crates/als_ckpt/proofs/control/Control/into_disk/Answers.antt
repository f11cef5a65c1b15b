use Rattle.als_ckpt.proofs.KeptLaws.{IsControlled-kept, LeavesOneOf-kept}
use Rattle.als_ckpt.proofs.control.Control.into_disk.Goals as goal

pub returns-clause-facts : goal.returns-clause-facts
returns-clause-facts g c = rw (← c.self.view_is) (IsControlled-kept _ _ _ _ _ _ _ _ _ _ _ _ c.self.invariant)

pub returns-clause-leaves : goal.returns-clause-leaves
returns-clause-leaves g c = rw (← c.self.view_is) (LeavesOneOf-kept _ _ _ _ _ _ _ _ _ _ _ _ c.self.invariant)
