use Rattle.std.proofs.Common.{◌<◌, arith, subst}
use Rattle.std.specs.Prelude.{Contains}
use Rattle.als_disk.specs.Slot.{Slot}
use Rattle.als_pool.proofs.PoolLaws.{row_is_sound}
use Rattle.als_pool.proofs.pool.Pool.into_disk.Goals as goal

pub returns-clause-images : goal.returns-clause-images
returns-clause-images g c =
    rw (← c.self.view_is) (λ log below h page content lt has.
    let inside : page < c.self.inside.frames.paged.pages = omega (arith, c.self.invariant.paged, lt) in
    row_is_sound log below _ page content h lt (subst (λ (s : Slot). Contains s.candidates content) (c.into_disk.ensures.slots page inside) has))
