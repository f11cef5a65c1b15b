use Rattle.std.proofs.Common.{◌≡◌, replicate}
use Rattle.als_lease.specs.Queue.{empty_queue}
use Rattle.als_pool.proofs.queues.Queues.new.Given as goal

abbrev pub invariant-loop-page : goal.invariant-loop-page
invariant-loop-page l = record {
  queues : l.queues.items ≡ replicate l._page empty_queue;
  flags : l.flags.items ≡ replicate l._page 0;
}
