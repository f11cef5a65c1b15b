use Rattle.std.proofs.Common.{◌≡◌}
use Rattle.als_disk.specs.MemDisk.{mem_blocks}
use Rattle.als_inspect.proofs.copying.keep.Given as goal

abbrev pub invariant-loop-i : goal.invariant-loop-i
invariant-loop-i l = record {
  count : mem_blocks l.disk ≡ mem_blocks l.initial.disk;
}
