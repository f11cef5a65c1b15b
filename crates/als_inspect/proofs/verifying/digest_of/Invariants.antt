use Rattle.std.proofs.Common.{◌≤◌, ◌-◌}
use Rattle.als_inspect.proofs.verifying.digest_of.Given as goal

abbrev pub invariant-loop-at : goal.invariant-loop-at
invariant-loop-at g l = record {
  within : l.at ≤ l.end;
}

abbrev pub decreases-loop-at : goal.decreases-loop-at
decreases-loop-at g l = l.end - l.at
