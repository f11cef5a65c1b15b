use Rattle.std.proofs.Common.{◌≡◌, ◌++◌, drop}
use Rattle.als_commits.specs.Committing.{writes_in}
use Rattle.als_store.proofs.store.committing.writes_of.Given as goal

abbrev pub invariant-loop-update : goal.invariant-loop-update
invariant-loop-update l = l.gathered ++ writes_in (drop l.update-index l.updates) ≡ writes_in l.updates
