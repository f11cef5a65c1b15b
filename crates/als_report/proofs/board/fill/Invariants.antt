use Rattle.std.proofs.Common.{◌≤◌}
use Rattle.als_report.proofs.board.fill.Given as goal

-- no more rows than there is room for
abbrev pub invariant-loop-member : goal.invariant-loop-member
invariant-loop-member l = l.count ≤ 8
