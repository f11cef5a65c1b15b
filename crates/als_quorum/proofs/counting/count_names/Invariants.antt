use Rattle.std.proofs.Common.{◌≤◌, take}
use Rattle.als_quorum.proofs.Choosing.{IsChoice}
use Rattle.als_quorum.proofs.counting.count_names.Given as goal

-- so many rows are chosen of the seats before this one
abbrev pub invariant-loop-at : goal.invariant-loop-at
invariant-loop-at l = record {
  few : l.count ≤ l.at;
  choice : IsChoice l.allowed.blocks.items (take l.at l.rows) l.wanted l.count;
}
