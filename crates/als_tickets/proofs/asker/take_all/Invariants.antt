use Rattle.std.proofs.Common.{map}
use Rattle.als_tickets.specs.Replies.{AreOwed}
use Rattle.als_tickets.proofs.asker.take_all.Given as goal

abbrev pub invariant-loop-outcome : goal.invariant-loop-outcome
invariant-loop-outcome g l = AreOwed g.O.Oath.may_tell (map (λ t. t.question.value) l.tickets.items) l.outcomes.items
