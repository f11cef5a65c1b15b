use Rattle.std.proofs.Common.{◌≡◌, ℕ, ◌+◌, ◌-◌, ◌<◌, ◌≤◌, List, length}
use Rattle.std.specs.Prelude.{slice_index}
use Rattle.als_disk.specs.Slot.{SameBlocks}
use Rattle.als_log.specs.Near.{IsNear}
use Rattle.als_log.specs.Reading.{IsSource}
use Rattle.als_log.proofs.reading.read_text.Given as goal

abbrev pub invariant-loop-out : goal.invariant-loop-out
invariant-loop-out g l = record {
  most : length l.out ≤ l.count;
  read : (text : List ℕ) → IsSource (g.D.BlockDisk.slot l.initial.disk) l.source.bytes.now text l.source.base → IsNear l.initial.near text l.source.base → (k : ℕ) → k < length l.out → slice_index l.out k ≡ slice_index text (l.at + k);
  near : (text : List ℕ) → IsSource (g.D.BlockDisk.slot l.initial.disk) l.source.bytes.now text l.source.base → IsNear l.initial.near text l.source.base → IsNear l.near text l.source.base;
  same : SameBlocks (g.D.BlockDisk.slot l.initial.disk) (g.D.BlockDisk.slot l.disk);
  count : g.D.BlockDisk.block_count l.disk ≡ g.D.BlockDisk.block_count l.initial.disk;
  failures : g.D.BlockDisk.failures l.disk ≡ g.D.BlockDisk.failures l.initial.disk;
  attempts : g.D.BlockDisk.attempts l.disk ≡ g.D.BlockDisk.attempts l.initial.disk;
}

abbrev pub decreases-loop-out : goal.decreases-loop-out
decreases-loop-out g l = l.count - length l.out
