use Rattle.std.proofs.Common.{◌≡◌, ℕ}
use Rattle.std.specs.BTreeMap.{btree_map_len}
use Rattle.als_disk.specs.Store.{newest_of, HasRoom}
use Rattle.als_disk.proofs.store.settle.Given as goal

abbrev pub invariant-loop-i : goal.invariant-loop-i
invariant-loop-i l = record {
  newest : (k : ℕ) → newest_of l.synced l.unsynced k ≡ newest_of l.initial.synced l.initial.unsynced k;
  room : HasRoom l.synced l.unsynced;
}

abbrev pub decreases-loop-i : goal.decreases-loop-i
decreases-loop-i l = btree_map_len l.unsynced
