use Rattle.std.proofs.Common.{◌≡◌, ℕ, List, [], ◌∷◌, ◌++◌, length, map, sym, ap, ◌∙◌, append_assoc, arith}
use Rattle.std.proofs.lemmas.List.{map-append, append-nil, nil_from_length}
use Rattle.als_writer.specs.declared.transaction.Transaction.{Transaction}
use Rattle.als_writer.specs.declared.work.Work.{Work}
use Rattle.als_asking.specs.Taking.{work_of}
use Rattle.als_asking.proofs.taking.works_of.Goals as goal

pub loop-transaction-preserved : goal.loop-transaction-preserved
loop-transaction-preserved c =
    let i = c.loop-transaction.invariant in
    let done = c.loop-transaction.yielded in
    let steps = c.in-Some.ensures.steps in (
      c.in_ok-push.ensures.items ∙ ap (λ (ws : List Work). ws ++ (c.work_of.result ∷ [])) i.0
          ∙ ap (λ (w : Work). map (work_of c.args.manner) done ++ (w ∷ [])) c.work_of.ensures
          ∙ sym (map-append (work_of c.args.manner) done (c.in-Some.transaction ∷ [])),
      append_assoc done (c.in-Some.transaction ∷ []) c.next.new.self.rest.items ∙ ap (λ (ts : List Transaction). done ++ ts) (sym steps.0) ∙ i.1,
    )

pub returns : goal.returns
returns c =
    let i = c.loop-transaction.invariant in
    let rest = c.loop-transaction.transaction-iterator.rest in
    let done = c.loop-transaction.yielded in
    let none : length rest.items ≡ 0 = omega (arith, c.in-None.ensures.steps.0) in
    let all = sym (append-nil done) ∙ ap (λ (ts : List Transaction). done ++ ts) (sym (nil_from_length rest.items none)) ∙ i.1 in
    i.0 ∙ ap (map (work_of c.args.manner)) all
