use Rattle.std.specs.Prelude.{◌≡◌, ◌-◌, length}
use Rattle.als_lease.specs.Lease.{with_done}
use Rattle.als_drive.proofs.draining.redone.Given as goal

abbrev pub invariant-redo : goal.invariant-redo
invariant-redo l = l.lease ≡ with_done l.fn.lease l.lease.done

abbrev pub decreases-redo : goal.decreases-redo
decreases-redo l = length l.lease.batch - l.lease.done
