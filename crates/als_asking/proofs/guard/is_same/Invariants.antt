use Rattle.std.proofs.Common.{◌≡◌, ◌&&◌, bytes_eq, drop}
use Rattle.als_asking.proofs.guard.is_same.Given as goal

-- what was compared is the same, and what is left decides
abbrev pub invariant-loop-i : goal.invariant-loop-i
invariant-loop-i l = bytes_eq l.one l.other ≡ (l.same && bytes_eq (drop l.i l.one) (drop l.i l.other))
