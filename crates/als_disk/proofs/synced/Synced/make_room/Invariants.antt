use Rattle.std.proofs.Common.{◌≡◌, ◌≤◌, ◌+◌, ◌-◌, ℕ, length}
use Rattle.als_disk.specs.Store.{synced_content}
use Rattle.als_disk.proofs.synced.Synced.make_room.Given as goal

abbrev pub invariant-loop-self : goal.invariant-loop-self
invariant-loop-self l = record {
  kept : length l.initial.self-inside.blocks.items ≤ length l.self-inside.blocks.items;
  same : (k : ℕ) → synced_content l.self-inside.blocks.items k ≡ synced_content l.initial.self-inside.blocks.items k;
}

abbrev pub decreases-loop-self : goal.decreases-loop-self
decreases-loop-self l = l.i + 1 - length l.self-inside.blocks.items
