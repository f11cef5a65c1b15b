use Rattle.std.proofs.Common.{◌≡◌, length, take}
use Rattle.als_lease.proofs.work.copy_first.Given as goal

abbrev pub invariant-loop-i : goal.invariant-loop-i
invariant-loop-i l = (length l.into ≡ 64) × (take l.i l.into ≡ take l.i l.waiting)
