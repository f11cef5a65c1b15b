use Rattle.als_ckpt.proofs.KeptLaws.{IsControlled-kept}
use Rattle.als_ckpt.proofs.control.Control.acknowledged.Goals as goal

pub returns-clause-facts : goal.returns-clause-facts
returns-clause-facts g c = rw (← c.self.view_is) (IsControlled-kept _ _ _ _ _ _ _ _ _ _ _ _ c.self.invariant)
