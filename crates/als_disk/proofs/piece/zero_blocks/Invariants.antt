use Rattle.std.proofs.Common.{◌≡◌, replicate}
use Rattle.als_disk.specs.Store.{zeros}
use Rattle.als_disk.proofs.piece.zero_blocks.Given as goal

abbrev pub invariant-loop : goal.invariant-loop
invariant-loop l = l.blocks.items ≡ replicate l.counter zeros
