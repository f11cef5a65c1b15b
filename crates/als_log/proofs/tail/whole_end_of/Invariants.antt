use Rattle.std.proofs.Common.{◌-◌, ◌≤◌}
use Rattle.als_log.specs.History.{records_in}
use Rattle.als_log.specs.Local.{IsFrontEnd}
use Rattle.als_log.proofs.tail.whole_end_of.Given as goal

abbrev pub invariant-loop-at : goal.invariant-loop-at
invariant-loop-at l = record {
  front : IsFrontEnd (records_in l.history) l.at;
  low : l.from ≤ l.at;
  order : l.at ≤ l.limit;
}

abbrev pub decreases-loop-at : goal.decreases-loop-at
decreases-loop-at l = l.limit - l.at
