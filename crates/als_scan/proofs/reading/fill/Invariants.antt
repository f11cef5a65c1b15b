use Rattle.std.proofs.Common.{◌≡◌, ◌-◌, ◌≤◌, ℕ, List}
use Rattle.als_disk.specs.Slot.{SameBlocks}
use Rattle.als_scan.specs.Judged.{Reads, position_of}
use Rattle.als_scan.specs.Texts.{StandsBelow}
use Rattle.als_scan.proofs.reading.fill.Given as goal

abbrev pub invariant-loop-judge : goal.invariant-loop-judge
invariant-loop-judge g l = record {
  log : l.judge ≡ record l.fn.judge { kept = l.judge.kept };
  reads : (text : List ℕ) → StandsBelow (g.D.BlockDisk.slot l.fn.disk) text l.mark → Reads text l.fn.judge → Reads text l.judge;
  within : position_of l.judge ≤ l.mark;
  same : SameBlocks (g.D.BlockDisk.slot l.fn.disk) (g.D.BlockDisk.slot l.disk);
  count : g.D.BlockDisk.block_count l.disk ≡ g.D.BlockDisk.block_count l.fn.disk;
  attempts : g.D.BlockDisk.attempts l.disk ≡ g.D.BlockDisk.attempts l.fn.disk;
  failures : g.D.BlockDisk.failures l.disk ≡ g.D.BlockDisk.failures l.fn.disk;
}

abbrev pub decreases-loop-judge : goal.decreases-loop-judge
decreases-loop-judge g l = l.mark - position_of l.judge
