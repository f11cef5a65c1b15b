use Rattle.als_ckpt.proofs.KeepingLaws.{IsKeeping-tried, IsKeeping-block}
use Rattle.als_ckpt.proofs.control.Control.write_next.Goals as goal

pub invariant_of-self : goal.invariant_of-self
invariant_of-self g c =
    rw c.in_err-write.ensures.count (IsKeeping-tried _ _ _ _ _ _ _ _ _ _ c.in_ok-place.place c.in_ok-place.block c.self.inside.begun c.self.invariant c.in_ok-place.ensures.ok c.in_err-write.ensures.others)

pub invariant_of-self-2 : goal.invariant_of-self-2
invariant_of-self-2 g c =
    rw (c.in_ok-write.ensures.count, c.note_written.ensures)
    (IsKeeping-block _ _ _ _ _ _ _ _ _ _ c.in_ok-place.place c.in_ok-place.block c.self.inside.begun c.self.invariant c.in_ok-place.ensures.ok c.in_ok-write.ensures.others c.in_ok-write.ensures.ok)
