use Rattle.std.proofs.Common.{sym, subst}
use Rattle.std.specs.Prelude.{Contains}
use Rattle.als_disk.specs.Slot.{Slot}
use Rattle.als_frames.proofs.Keeping.{each_image}
use Rattle.als_frames.proofs.SlotsLaws.{slot_at}
use Rattle.als_frames.proofs.frames.Frames.into_disk.Goals as goal

pub returns-clause-slots : goal.returns-clause-slots
returns-clause-slots g c = rw (← c.self.view_is) (λ page lt. sym (slot_at c.self.inside.pages page (g.D.BlockDisk.slot c.self.inside.disk) lt))

pub returns-clause-images : goal.returns-clause-images
returns-clause-images g c =
    rw (← c.self.view_is) (λ log synced below h page content lt has.
    each_image log synced below _ page content lt h
    (subst (λ (s : Slot). Contains s.candidates content) (sym (slot_at c.self.inside.pages page (g.D.BlockDisk.slot c.self.inside.disk) lt)) has))
