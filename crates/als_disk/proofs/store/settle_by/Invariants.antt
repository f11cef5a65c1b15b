use Rattle.std.proofs.Common.{◌≡◌, ◌≤◌, ◌+◌, ℕ, length, min}
use Rattle.std.specs.BTreeMap.{btree_map_len}
use Rattle.als_disk.specs.Crash.{choices_below, picked_content}
use Rattle.als_disk.specs.Store.{slot_of, HasRoom, IsInRange}
use Rattle.als_disk.proofs.store.settle_by.Given as goal

abbrev pub invariant-loop-i : goal.invariant-loop-i
invariant-loop-i l = record {
  picked : (k : ℕ) → picked_content (slot_of l.synced l.unsynced) l.left k ≡ picked_content (slot_of l.initial.synced l.initial.unsynced) l.picks k;
  room : HasRoom l.synced l.unsynced;
  in_range : (blocks : ℕ) → IsInRange l.initial.unsynced blocks → IsInRange l.unsynced blocks;
  used : (blocks : ℕ) → IsInRange l.initial.unsynced blocks →
      min (length l.left) (choices_below (slot_of l.synced l.unsynced) blocks) + length l.picks
      ≡ min (length l.picks) (choices_below (slot_of l.initial.synced l.initial.unsynced) blocks) + length l.left;
  shorter : length l.left ≤ length l.picks;
}

abbrev pub decreases-loop-i : goal.decreases-loop-i
decreases-loop-i l = btree_map_len l.unsynced
