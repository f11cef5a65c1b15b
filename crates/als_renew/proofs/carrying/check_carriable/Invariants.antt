use Rattle.std.proofs.Common.{◌<◌, take}
use Rattle.std.specs.Prelude.{All}
use Rattle.als_renew.proofs.carrying.check_carriable.Given as goal

abbrev pub invariant-loop-i : goal.invariant-loop-i
invariant-loop-i l = record {
  few : l.i < 256;
  above : All (λ d. l.pages < d.trans) (take l.i l.doubts);
}
