use Rattle.std.proofs.Common.{◌≡◌}
use Rattle.als_disk.specs.Slot.{SameBlocks}
use Rattle.als_ckpt.specs.Reading.{StandIn}
use Rattle.als_ckpt.proofs.reading.read_blocks.Given as goal

abbrev pub invariant-loop-k : goal.invariant-loop-k
invariant-loop-k g l = record {
  stands : StandIn (g.D.BlockDisk.slot l.fn.disk) l.first l.k l.bytes.items;
  same : SameBlocks (g.D.BlockDisk.slot l.fn.disk) (g.D.BlockDisk.slot l.disk);
  count : g.D.BlockDisk.block_count l.disk ≡ g.D.BlockDisk.block_count l.fn.disk;
  attempts : g.D.BlockDisk.attempts l.disk ≡ g.D.BlockDisk.attempts l.fn.disk;
  failures : g.D.BlockDisk.failures l.disk ≡ g.D.BlockDisk.failures l.fn.disk;
}
