use Rattle.std.proofs.Common.{◌≡◌, ◌++◌, ◌-◌, length, List}
use Rattle.std.specs.List.{filter}
use Rattle.als_seats.specs.declared.ask.Ask.{Ask}
use Rattle.als_seats.specs.Asks.{is_of}
use Rattle.als_seats.specs.Outcomes.{TakesBack}
use Rattle.als_seats.proofs.queue.tell_not_begun.Given as goal

-- the questions that were gone through were not begun where they are of the seat, and as many less are waited for
abbrev pub invariant-loop-ask : goal.invariant-loop-ask
invariant-loop-ask g l =
    (done : List (Ask g.row.T.Denot))
    × (done ++ (l.ask-iterator.head.now ++ l.ask-iterator.wrapped.now) ≡ l.fn.waiting.items)
    × TakesBack l.fn.seat done l.fn.slots.outcomes.items l.slots.outcomes.items
    × (l.slots.left ≡ l.fn.slots.left - length (filter (is_of {T = g.row.T.Denot} l.fn.seat) done))
    × (l.slots.is_over ≡ l.fn.slots.is_over)
