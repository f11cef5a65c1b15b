use Rattle.std.proofs.Common.{◌≡◌, ◌≤◌, ◌+◌, ℕ, length}
use Rattle.als_disk.specs.Mirror.{mirror_blocks, mirror_slot}
use Rattle.als_disk.proofs.reading.take_in.Given as goal

abbrev pub invariant-loop-i : goal.invariant-loop-i
invariant-loop-i l = record {
  count : mirror_blocks l.mirror ≡ mirror_blocks l.initial.mirror;
  above : (k : ℕ) → l.first + length l.piece ≤ k → mirror_slot l.mirror k ≡ mirror_slot l.initial.mirror k;
}
