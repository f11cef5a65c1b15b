use Rattle.std.proofs.Common.{◌≡◌, ◌≤◌, ◌-◌}
use Rattle.std.specs.Prelude.{vec_len}
use Rattle.als_disk.specs.MemDisk.{mem_blocks}
use Rattle.als_inspect.proofs.copying.copy.Given as goal

abbrev pub invariant-loop-first : goal.invariant-loop-first
invariant-loop-first g l = record {
  count : mem_blocks l.disk ≡ l.blocks;
  room : vec_len l.piece ≡ 2048;
  within : l.first ≤ l.end;
}

abbrev pub decreases-loop-first : goal.decreases-loop-first
decreases-loop-first g l = l.end - l.first
