use Rattle.std.proofs.Common.{rules, ◌≡◌, is_ok, List, [], ◌∷◌, ◌++◌, map, sym, ap, ◌∙◌, append_assoc}
use Rattle.std.proofs.lemmas.List.{map-append}
use Rattle.als_seats.specs.declared.outcome.Outcome.{Outcome}
use Rattle.als_lead.specs.declared.answer.Answer.{Answer}
use Rattle.als_asking.specs.declared.outcome.Outcome.{Outcome as Fate}
use Rattle.als_primary.specs.Fates.{fate_of}
use Rattle.als_primary.proofs.Outcomes.{none_told, fates_so_far, not_pushed}
use Rattle.als_primary.proofs.chair.ChairCommits.commit.Goals as goal
use Rattle.als_primary.proofs.chair.ChairCommits.commit.Goals.{in-None, in-Some+then-is_err}

pub loop-outcome-preserved : goal.loop-outcome-preserved
loop-outcome-preserved g c =
    let i = c.loop-outcome.invariant in
    let done = c.loop-outcome.yielded in
    let steps = c.in-Some.ensures.steps in
    let joined : c.push.new.self.items ≡ c.loop-outcome.fates.items ++ c.fate_of.result ∷ [] = search rules in (
      joined ∙ ap (λ (fs : List Fate). fs ++ (c.fate_of.result ∷ [])) i.0
          ∙ ap (λ (f : Fate). map fate_of done ++ (f ∷ [])) c.fate_of.ensures
          ∙ sym (map-append fate_of done (c.in-Some.outcome ∷ [])),
      append_assoc done (c.in-Some.outcome ∷ []) c.next.new.self.rest.items ∙ ap (λ (os : List (Outcome Answer)). done ++ os) (sym steps.0) ∙ i.1,
    )

pub returns-in_default : goal.returns-in_default
returns-in_default g c = none_told g.O.Oath.may_tell c.args.asked.items c.new.result.items (search rules)

pub returns-in_default-ask : goal.returns-in_default-ask
returns-in_default-ask g c = none_told g.O.Oath.may_tell c.args.asked.items c.in-Ok.fates.items (search rules)

pub returns : goal.returns
returns g c =
    let i = c.loop-outcome.invariant in
    let so_far : c.match-next.fates.items ≡ map fate_of c.loop-outcome.yielded =
    elim c.match-next.branch [
      | in-None w ↦ ap (λ v. v.items) w.fates-is ∙ i.0
      | in-Some+then-is_err w ↦
          ap (λ v. v.items) w.fates-is ∙ not_pushed (is_ok w.push.result) w.is_err.result w.push.new.self.items (c.loop-outcome.fates.items ++ w.fate_of.result ∷ []) c.loop-outcome.fates.items w.push.ensures.items w.is_err.ensures.negation w.if-is_err.true ∙ i.0
    ] in
    let whole : c.into_iter-outcome-iterator.result.rest.items ≡ c.in-Ok-ask.outcomes.items = search rules in
    fates_so_far g.O.Oath.may_tell c.args.asked.items c.loop-outcome.yielded c.loop-outcome.outcome-iterator.rest.items c.in-Ok-ask.outcomes.items c.match-next.fates.items so_far
    (i.1 ∙ whole) c.in-Ok-ask.ensures
