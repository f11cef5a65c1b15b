use Rattle.std.proofs.Common.{◌≡◌, ◌-◌, ◌≤◌, ℕ}
use Rattle.std.specs.Prelude.{vec_len}
use Rattle.als_disk.specs.Mirror.{mirror_blocks, mirror_slot}
use Rattle.als_disk.specs.Slot.{only}
use Rattle.als_disk.specs.Store.{zeros}
use Rattle.als_disk.proofs.reading.mirror_of.Given as goal

abbrev pub invariant-loop-first : goal.invariant-loop-first
invariant-loop-first g l = record {
  count : mirror_blocks l.mirror ≡ l.blocks;
  within : l.first ≤ l.extent.read;
  room : vec_len l.piece ≡ 2048;
  above : (k : ℕ) → l.first ≤ k → mirror_slot l.mirror k ≡ only zeros;
}

abbrev pub decreases-loop-first : goal.decreases-loop-first
decreases-loop-first g l = l.extent.read - l.first
