use Rattle.std.proofs.Common.{rules, ◌≡◌, [], ◌∷◌, ◌++◌, length, map, Some, slice_get, sym, subst}
use Rattle.std.proofs.lemmas.Option.{gets}
use Rattle.als_tickets.specs.Replies.{AreOwed}
use Rattle.als_tickets.proofs.Owing.{owed_none, owed_more, get_map}
use Rattle.als_tickets.proofs.asker.take_all.Goals as goal

pub loop-outcome-init : goal.loop-outcome-init
loop-outcome-init g c =
    subst (λ os. AreOwed g.O.Oath.may_tell (map (λ t. t.question.value) c.args.tickets.now.items) os) (sym c.requires.empty)
    (owed_none g.O.Oath.may_tell (map (λ t. t.question.value) c.args.tickets.now.items))

pub loop-outcome-preserved : goal.loop-outcome-preserved
loop-outcome-preserved g c =
    let found : slice_get c.args.tickets.now.items (length c.loop-outcome.outcomes.items) ≡ Some c.in-Some-get.mine.now = search (rules, gets) in
    let joined : c.push.new.self.items ≡ c.loop-outcome.outcomes.items ++ c.take.result ∷ [] = search rules in
    subst (λ os. AreOwed g.O.Oath.may_tell (map (λ t. t.question.value) c.args.tickets.now.items) os) (sym joined)
    (owed_more g.O.Oath.may_tell (map (λ t. t.question.value) c.args.tickets.now.items) c.loop-outcome.outcomes.items c.in-Some-get.mine.now.question.value c.take.result c.loop-outcome.invariant
    (get_map (λ t. t.question.value) c.args.tickets.now.items (length c.loop-outcome.outcomes.items) c.in-Some-get.mine.now found) c.take.ensures)
