use Rattle.std.proofs.Common.{◌≡◌, replicate, []}
use Rattle.als_disk.proofs.mirror.holding.empty_pieces.Given as goal

abbrev pub invariant-loop : goal.invariant-loop
invariant-loop l = l.pieces.items ≡ replicate l.counter []
