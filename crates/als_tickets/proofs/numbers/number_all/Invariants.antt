use Rattle.std.proofs.Common.{◌≡◌, ◌++◌, map}
use Rattle.als_tickets.proofs.numbers.number_all.Given as goal

abbrev pub invariant-loop-value : goal.invariant-loop-value
invariant-loop-value g l =
    (map (λ t. t.question.value) l.tickets.items ≡ l.yielded) × (l.yielded ++ l.value-iterator.rest.items ≡ l.fn.questions.items)
