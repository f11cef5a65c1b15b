use Rattle.als_ckpt.proofs.KeptLaws.{IsPublished-newest}
use Rattle.als_ckpt.proofs.control.Control.write_history.Goals as goal

pub write-requires-clause-named : goal.write-requires-clause-named
write-requires-clause-named g c = rw (← c.self.view_is) (IsPublished-newest _ _ _ _ _ _ _ _ _ _ c.self.invariant)
