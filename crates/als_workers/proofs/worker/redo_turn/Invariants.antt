use Rattle.std.proofs.Common.{◌≡◌, ◌+◌}
use Rattle.als_workers.proofs.worker.redo_turn.Given as goal

abbrev pub invariant-loop : goal.invariant-loop
invariant-loop l = (l.lease.number ≡ l.fn.lease.number) × (l.lease.done ≡ l.fn.lease.done + l.counter)
