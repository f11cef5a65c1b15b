use Rattle.std.proofs.Common.{◌≡◌, ◌≤◌, ◌++◌, length}
use Rattle.als_seats.specs.Asks.{asks_of}
use Rattle.als_seats.proofs.queue.push_all.Given as goal

abbrev pub invariant-loop-question : goal.invariant-loop-question
invariant-loop-question g l =
    (l.waiting.items ≡ l.fn.waiting.items ++ asks_of l.fn.seat 0 l.yielded)
    × (l.yielded ++ l.question-iterator.rest.items ≡ l.fn.questions.items)
    × (l.put ≡ length l.yielded)
    × (l.put ≤ 600)
