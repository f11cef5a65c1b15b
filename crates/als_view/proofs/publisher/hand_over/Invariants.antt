use Rattle.std.proofs.Common.{◌≡◌, ◌++◌, drop, length}
use Rattle.als_view.specs.Changes.{added}
use Rattle.als_view.proofs.publisher.hand_over.Given as goal

abbrev pub invariant-loop-commit : goal.invariant-loop-commit
invariant-loop-commit l = record {
  desk : l.writer.desk ≡ l.fn.writer.desk;
  all : added (drop l.writer.behind l.writer.log.items) ++ l.queue.items ≡ added (drop l.fn.writer.behind l.fn.writer.log.items) ++ l.fn.queue.items;
}

abbrev pub decreases-loop-commit : goal.decreases-loop-commit
decreases-loop-commit l = length l.queue.items
