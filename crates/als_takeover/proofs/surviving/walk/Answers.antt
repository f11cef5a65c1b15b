use Rattle.std.proofs.Common.{◌≡◌, ◌<◌, ◌++◌, true, length, sym, ap, ◌∙◌, subst, arith}
use Rattle.std.proofs.lemmas.Result.{err_from_is_err_and}
use Rattle.als_record.specs.declared.record.Record.{Record}
use Rattle.als_record.specs.Transactions.{to_undo}
use Rattle.als_record.specs.UndoChain.{undone_at, goes_to, undo_chain, backwards}
use Rattle.als_record.specs.Validity.{is_valid}
use Rattle.als_record.proofs.ChainReads.{ChainStep}
use Rattle.als_log.specs.Local.{Local}
use Rattle.als_takeover.specs.Next.{CannotRead}
use Rattle.als_takeover.proofs.Looks.{has-step, reads-only, is-step, not-none}
use Rattle.als_takeover.proofs.Walks.{met, met-more, all_met}
use Rattle.als_takeover.proofs.surviving.walk.Goals as goal

pub returns-in_err-looked-clause-err : goal.returns-in_err-looked-clause-err
returns-in_err-looked-clause-err g c t v chain all =
    let S = c.walk.log in
    let inv = c.walk.invariant in
    let us = c.walk.updates.items in
    let here = c.walk.here in
    let good : is_valid S.log ≡ true = subst (λ (x : Local). is_valid x.log ≡ true) (sym inv.same) v in
    let parts : to_undo S.log t ≡ us ++ undo_chain here (backwards S.log t) = subst (λ (x : Local). to_undo x.log t ≡ us ++ undo_chain here (backwards x.log t)) (sym inv.same) (inv.met t v chain all) in
    let count : length (to_undo S.log t) ≡ c.args.count = subst (λ (x : Local). length (to_undo x.log t) ≡ c.args.count) (sym inv.same) all in
    let lt : length us < c.args.count = omega (arith, c.len.ensures, c.walk-test.true, c.walk.updates.ok.0) in
    let step : (r : Record) × ChainStep S.log t here r = met S.log t good us here c.args.count parts count lt in
    let r = step.0 in
    let s = step.1 in
    let p = err_from_is_err_and c.from_residual.result c.from_residual.ensures.1 in
    let fails : CannotRead c.in_err-looked.field-0.0 S c.record.new.self = reads-only S t here r s c.record.new.self c.in_err-looked.field-0.0 c.in_err-looked.ensures.err in
    rw (p.1, p.2) (subst (λ (x : Local). CannotRead c.in_err-looked.field-0.0 x c.record.new.self) inv.same fails)

pub returns-in-None-clause-found : goal.returns-in-None-clause-found
returns-in-None-clause-found g c t v chain all =
    let S = c.walk.log in
    let inv = c.walk.invariant in
    let us = c.walk.updates.items in
    let here = c.walk.here in
    let good : is_valid S.log ≡ true = subst (λ (x : Local). is_valid x.log ≡ true) (sym inv.same) v in
    let parts : to_undo S.log t ≡ us ++ undo_chain here (backwards S.log t) = subst (λ (x : Local). to_undo x.log t ≡ us ++ undo_chain here (backwards x.log t)) (sym inv.same) (inv.met t v chain all) in
    let count : length (to_undo S.log t) ≡ c.args.count = subst (λ (x : Local). length (to_undo x.log t) ≡ c.args.count) (sym inv.same) all in
    let lt : length us < c.args.count = omega (arith, c.len.ensures, c.walk-test.true, c.walk.updates.ok.0) in
    let step : (r : Record) × ChainStep S.log t here r = met S.log t good us here c.args.count parts count lt in
    let r = step.0 in
    let s = step.1 in
    absurd (not-none S t here r s (sym c.in-None.is ∙ c.in_ok-looked.ensures.ok (has-step S t here r s)))

pub returns-then-here-next-clause-found : goal.returns-then-here-next-clause-found
returns-then-here-next-clause-found g c t v chain all =
    let S = c.walk.log in
    let inv = c.walk.invariant in
    let us = c.walk.updates.items in
    let here = c.walk.here in
    let good : is_valid S.log ≡ true = subst (λ (x : Local). is_valid x.log ≡ true) (sym inv.same) v in
    let parts : to_undo S.log t ≡ us ++ undo_chain here (backwards S.log t) = subst (λ (x : Local). to_undo x.log t ≡ us ++ undo_chain here (backwards x.log t)) (sym inv.same) (inv.met t v chain all) in
    let count : length (to_undo S.log t) ≡ c.args.count = subst (λ (x : Local). length (to_undo x.log t) ≡ c.args.count) (sym inv.same) all in
    let lt : length us < c.args.count = omega (arith, c.len.ensures, c.walk-test.true, c.walk.updates.ok.0) in
    let step : (r : Record) × ChainStep S.log t here r = met S.log t good us here c.args.count parts count lt in
    let r = step.0 in
    let s = step.1 in
    let same : c.in-Some.found ≡ r = is-step S t here r s c.in-Some.found (sym c.in-Some.is ∙ c.in_ok-looked.ensures.ok (has-step S t here r s)) in
    let next : c.next_of-next.result ≡ goes_to r r.body = c.next_of-next.ensures ∙ ap (λ (x : Record). goes_to x x.body) same in
    absurd (omega (arith, next, s.down, c.if-here-next.true))

pub walk-preserved : goal.walk-preserved
walk-preserved g c = record {
  met = λ t v chain all.
      let S = c.walk.log in
      let inv = c.walk.invariant in
      let us = c.walk.updates.items in
      let here = c.walk.here in
      let good : is_valid S.log ≡ true = subst (λ (x : Local). is_valid x.log ≡ true) (sym inv.same) v in
      let parts : to_undo S.log t ≡ us ++ undo_chain here (backwards S.log t) = subst (λ (x : Local). to_undo x.log t ≡ us ++ undo_chain here (backwards x.log t)) (sym inv.same) (inv.met t v chain all) in
      let count : length (to_undo S.log t) ≡ c.args.count = subst (λ (x : Local). length (to_undo x.log t) ≡ c.args.count) (sym inv.same) all in
      let lt : length us < c.args.count = omega (arith, c.len.ensures, c.walk-test.true, c.walk.updates.ok.0) in
      let step : (r : Record) × ChainStep S.log t here r = met S.log t good us here c.args.count parts count lt in
      let r = step.0 in
      let s = step.1 in
      let same : c.in-Some.found ≡ r = is-step S t here r s c.in-Some.found (sym c.in-Some.is ∙ c.in_ok-looked.ensures.ok (has-step S t here r s)) in
      let next : c.next_of-next.result ≡ goes_to r r.body = c.next_of-next.ensures ∙ ap (λ (x : Record). goes_to x x.body) same in
      let items : c.take.new.updates.items ≡ us ++ undone_at r r.body = c.take.ensures.items ∙ ap (λ (x : Record). us ++ undone_at x x.body) same in
      let more : to_undo S.log t ≡ c.take.new.updates.items ++ undo_chain c.next_of-next.result (backwards S.log t) = rw (items, next) (met-more S.log t good us here c.args.count parts count lt r s) in
      subst (λ (x : Local). to_undo x.log t ≡ c.take.new.updates.items ++ undo_chain c.next_of-next.result (backwards x.log t)) inv.same more;
  same = c.in_ok-looked.ensures.same ∙ c.walk.invariant.same;
  room = omega (arith, c.take.ensures.capacity, c.walk.invariant.room);
}

pub returns-clause-found : goal.returns-clause-found
returns-clause-found g c t v chain all =
    let inv = c.walk.invariant in
    all_met c.walk.updates.items (undo_chain c.walk.here (backwards c.args.log.now.log t)) (to_undo c.args.log.now.log t) c.args.count (inv.met t v chain all) all (omega (arith, c.len.ensures, c.walk-test.false, c.walk.updates.ok.0))
