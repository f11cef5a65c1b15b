use Rattle.std.proofs.Common.{rules, ◌≡◌, ◌++◌, [], ◌∷◌, List, sym, ap, ◌∙◌, append_assoc, arith}
use Rattle.std.proofs.lemmas.List.{length_push}
use Rattle.als_seats.proofs.Asks.{put-more}
use Rattle.als_seats.proofs.queue.push_all.Goals as goal

-- src/queue.rt:106:5
pub loop-question-preserved : goal.loop-question-preserved
loop-question-preserved g c =
    let i = c.loop-question.invariant in
    let pushed : c.push_back.new.self.items ≡ c.loop-question.waiting.items ++ record { place = record { seat = c.args.seat; at = c.loop-question.put }; question = c.in-Some.question } ∷ [] = search rules in
    let steps = c.in-Some.ensures.steps in (
      pushed ∙ put-more c.args.seat c.loop-question.put c.args.waiting.now.items c.loop-question.waiting.items c.loop-question.yielded c.in-Some.question i.0 i.2,
      append_assoc c.loop-question.yielded (c.in-Some.question ∷ []) c.next.new.self.rest.items ∙ ap (λ (zs : List g.row.T.Denot). c.loop-question.yielded ++ zs) (sym steps.0) ∙ i.1,
      (let n = length_push c.loop-question.yielded c.in-Some.question in let k = i.2 in omega arith),
      search rules,
    )
