use Rattle.std.proofs.Common.{◌≡◌, ℕ, List, [], ◌∷◌, ◌++◌, length, map, sym, ap, ◌∙◌, append_assoc, arith}
use Rattle.std.proofs.lemmas.List.{append-nil, nil_from_length}
use Rattle.als_tickets.proofs.Owing.{numbered_more}
use Rattle.als_tickets.proofs.numbers.number_all.Goals as goal

pub loop-value-preserved : goal.loop-value-preserved
loop-value-preserved g c =
    let i = c.loop-value.invariant in
    let done = c.loop-value.yielded in
    let steps = c.in-Some.ensures.steps in (
      numbered_more (λ t. t.question.value) c.loop-value.tickets.items c.push-in-loop-value.new.self.items c.in_ok-question.ticket c.in-Some.value done i.0 c.in_ok-push-2.ensures.items c.in_ok-question.ensures,
      append_assoc done (c.in-Some.value ∷ []) c.next.new.self.rest.items ∙ ap (λ (ts : List g.row.T.Denot). done ++ ts) (sym steps.0) ∙ i.1,
    )

pub returns : goal.returns
returns g c =
    let i = c.loop-value.invariant in
    let rest = c.loop-value.value-iterator.rest in
    let done = c.loop-value.yielded in
    let none : length rest.items ≡ 0 = omega (arith, c.in-None.ensures.steps.0) in
    i.0 ∙ sym (append-nil done) ∙ ap (λ (ts : List g.row.T.Denot). done ++ ts) (sym (nil_from_length rest.items none)) ∙ i.1
