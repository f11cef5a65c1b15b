use Rattle.std.proofs.Common.{List, ℕ, sym, subst, refl, arith, ◌∷◌, []}
use Rattle.std.specs.Prelude.{Contains}
use Rattle.als_disk.specs.Trail.{readable_in}
use Rattle.als_disk.proofs.file_disk.FileDiskBlockDisk.read.Goals as goal

pub returns-in-Ok-clause-ok : goal.returns-in-Ok-clause-ok
returns-in-Ok-clause-ok g c =
    let m = c.args.self.now.mirror in
    let one : Contains (c.in-Ok.block ∷ []) c.in-Ok.block = (0, omega arith, refl) in
    let last = subst (λ (x : List ℕ). Contains (x ∷ []) c.in-Ok.block) c.in-Ok.ensures one in
    subst (λ (xs : List (List ℕ)). Contains xs c.in-Ok.block) (sym (readable_in m.trail.value c.args.i)) last
