use Rattle.std.proofs.Common.{◌≡◌, ℕ, List}
use Rattle.als_callers.specs.declared.block.Block.{Block}
use Rattle.als_primary.specs.Others.{IsConfirmed, IsMissed}
use Rattle.als_primary.proofs.watching.Watching.ask_long.Given as goal

-- what was answered stays so, and whose word counts
abbrev pub invariant-loop : goal.invariant-loop
invariant-loop g l = record {
  keeps : (blocks : List Block) (k n : ℕ) → IsConfirmed blocks k l.fn.self.others.answers n → IsConfirmed blocks k l.self.others.answers n;
  misses : (blocks : List Block) (k n : ℕ) → IsMissed blocks k l.fn.self.others.answers n → IsMissed blocks k l.self.others.answers n;
  same : l.self.others.count ≡ l.fn.self.others.count;
  whose : l.self.others.quorum ≡ l.fn.self.others.quorum;
}
