use Rattle.std.proofs.Common.{◌≡◌, ◌⊎◌, ◌-◌, ◌≤◌, None}
use Rattle.als_disk.specs.Slot.{SameBlocks}
use Rattle.als_log.specs.History.{records_in}
use Rattle.als_record.specs.LogText.{log_text}
use Rattle.als_log.specs.Local.{IsFrontEnd}
use Rattle.als_log.specs.Near.{IsNear}
use Rattle.als_log.specs.Reading.{record_at}
use Rattle.als_log.proofs.reading.walk.Given as goal

abbrev pub invariant-loop-at : goal.invariant-loop-at
invariant-loop-at g l = record {
  front : IsFrontEnd (records_in l.source.history.now) l.at;
  past : (l.at ≤ l.to) ⊎ (record_at (records_in l.source.history.now) l.to ≡ None);
  near : IsNear l.near (log_text l.source.pages (records_in l.source.history.now)) l.source.base;
  same : SameBlocks (g.D.BlockDisk.slot l.initial.disk) (g.D.BlockDisk.slot l.disk);
  count : g.D.BlockDisk.block_count l.disk ≡ g.D.BlockDisk.block_count l.initial.disk;
  failures : g.D.BlockDisk.failures l.disk ≡ g.D.BlockDisk.failures l.initial.disk;
  attempts : g.D.BlockDisk.attempts l.disk ≡ g.D.BlockDisk.attempts l.initial.disk;
}

abbrev pub decreases-loop-at : goal.decreases-loop-at
decreases-loop-at g l = l.to - l.at
