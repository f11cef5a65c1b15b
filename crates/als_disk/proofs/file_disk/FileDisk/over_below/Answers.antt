use Rattle.std.proofs.Common.{◌≡◌, ◌≤◌, ◌*◌, ℕ, sym, subst}
use Rattle.als_disk.specs.declared.mirror.Mirror.{Mirror}
use Rattle.als_disk.specs.Mirror.{mirror_slot}
use Rattle.als_disk.specs.Slot.{only, IsSettled}
use Rattle.als_disk.specs.Store.{zeros}
use Rattle.als_disk.proofs.file_disk.FileDisk.over_below.Goals as goal

pub returns : goal.returns
returns g c = record {
  settled = subst (λ (m : Mirror). (k : ℕ) → IsSettled (mirror_slot m k)) (sym c.with.ensures.mirror) c.in_ok-mirror.ensures.settled;
  above = subst (λ (m : Mirror). (k : ℕ) → c.args.bytes ≤ k * 512 → mirror_slot m k ≡ only zeros) (sym c.with.ensures.mirror) (λ k past. c.in_ok-mirror.ensures.above k (c.below.ensures.none k past));
}
