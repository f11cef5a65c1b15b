use Rattle.std.proofs.Common.{take}
use Rattle.std.specs.Prelude.{All}
use Rattle.als_peers.specs.Keeping.{KeepsFrom}
use Rattle.als_peers.proofs.judging.judge.Given as goal

abbrev pub invariant-loop-i : goal.invariant-loop-i
invariant-loop-i l = record {
  clear : All (λ answer. KeepsFrom l.fn.own answer → ⊥) (take l.i l.fn.answers);
}
