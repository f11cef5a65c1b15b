use Rattle.std.proofs.Common.{◌≡◌, ◌++◌, map}
use Rattle.als_primary.specs.Fates.{fate_of}
use Rattle.als_primary.proofs.chair.ChairCommits.commit.Given as goal

abbrev pub invariant-loop-outcome : goal.invariant-loop-outcome
invariant-loop-outcome g l =
    (l.fates.items ≡ map fate_of l.yielded) × (l.yielded ++ l.outcome-iterator.rest.items ≡ l.initial.outcome-iterator.rest.items)
