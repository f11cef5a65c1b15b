use Rattle.std.proofs.Common.{◌≡◌, ◌+◌, drop}
use Rattle.als_lease.specs.Queue.{count_up_to}
use Rattle.als_lease.proofs.page_queue.PageQueue.count_up_to.Given as goal

abbrev pub invariant-loop-i : goal.invariant-loop-i
invariant-loop-i l = count_up_to l.lsn l.waiting ≡ l.i + count_up_to l.lsn (drop l.i l.waiting)
