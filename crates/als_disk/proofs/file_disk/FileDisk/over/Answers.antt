use Rattle.std.proofs.Common.{ℕ, sym, subst}
use Rattle.als_disk.specs.declared.mirror.Mirror.{Mirror}
use Rattle.als_disk.specs.Mirror.{mirror_slot}
use Rattle.als_disk.specs.Slot.{IsSettled}
use Rattle.als_disk.proofs.file_disk.FileDisk.over.Goals as goal

pub returns : goal.returns
returns g c = record {
  settled = subst (λ (m : Mirror). (k : ℕ) → IsSettled (mirror_slot m k)) (sym c.with.ensures.mirror) c.in_ok-mirror.ensures.settled;
}
