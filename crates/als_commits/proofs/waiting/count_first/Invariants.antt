use Rattle.std.proofs.Common.{◌≡◌, ◌+◌, drop}
use Rattle.als_commits.specs.Counting.{count_below}
use Rattle.als_commits.proofs.waiting.count_first.Given as goal

abbrev pub invariant-loop-i : goal.invariant-loop-i
invariant-loop-i l = count_below l.lsn l.queued.items ≡ l.i + count_below l.lsn (drop l.i l.queued.items)
