use Rattle.std.proofs.Common.{◌≡◌, ◌++◌, take, drop}
use Rattle.als_ckpt.specs.Again.{seals_below}
use Rattle.als_rewind.proofs.control.seals_under.Given as goal

abbrev pub invariant-loop-seal : goal.invariant-loop-seal
invariant-loop-seal l = record {
  told : seals_below l.lsn.0 l.seal-items ≡ l.front ++ seals_below l.lsn.0 (drop l.seal-index l.seal-items);
  front : l.front ≡ take l.seal-index l.seal-items;
}
