use Rattle.std.proofs.Common.{◌≡◌, ◌<◌, ◌≤◌, true, false, length, get_or, set, sym, ap, ◌∙◌, subst, arith}
use Rattle.std.proofs.lemmas.Result.{err_from_is_err_and}
use Rattle.als_record.specs.declared.record.Record.{Record}
use Rattle.als_record.specs.Transactions.{is_update}
use Rattle.als_record.specs.UndoChain.{goes_to}
use Rattle.als_record.specs.Validity.{is_valid}
use Rattle.als_record.proofs.ChainReads.{ChainStep}
use Rattle.als_log.specs.Local.{Local}
use Rattle.als_takeover.specs.Next.{AreCursors, NoneToUndo, IsNewest, CannotRead}
use Rattle.als_takeover.proofs.Next.{above, cursor-step, cursor-newest, cursor-moved, all_met}
use Rattle.als_takeover.proofs.Looks.{has-step, reads-only, is-step, not-none}
use Rattle.als_takeover.proofs.undo.newest_of.Goals as goal

pub returns-then-here-eq0-clause-found : goal.returns-then-here-eq0-clause-found
returns-then-here-eq0-clause-found g c ts v n are =
    let S = c.chains.log in
    let inv = c.chains.invariant in
    let at = c.greatest_of-at.result in
    let xs = c.chains.cursors in
    let good : is_valid S.log ≡ true = subst (λ (x : Local). is_valid x.log ≡ true) (sym inv.same) v in
    let here_are : AreCursors S.log ts xs = subst (λ (x : Local). AreCursors x.log ts xs) (sym inv.same) (inv.chains ts v n are) in
    let zero_here : get_or xs at 0 ≡ 0 = c.if-here-eq0.true in
    let none : NoneToUndo S.log ts = all_met S.log ts xs good here_are (λ j l. let h : get_or xs j 0 ≤ get_or xs at 0 = c.greatest_of-at.ensures.top j (omega (arith, l, n)) in omega arith) in
    subst (λ (x : Local). NoneToUndo x.log ts) inv.same none

pub returns-in_err-looked-clause-err : goal.returns-in_err-looked-clause-err
returns-in_err-looked-clause-err g c ts v n are =
    let S = c.chains.log in
    let inv = c.chains.invariant in
    let at = c.greatest_of-at.result in
    let xs = c.chains.cursors in
    let good : is_valid S.log ≡ true = subst (λ (x : Local). is_valid x.log ≡ true) (sym inv.same) v in
    let here_are : AreCursors S.log ts xs = subst (λ (x : Local). AreCursors x.log ts xs) (sym inv.same) (inv.chains ts v n are) in
    let some : 0 < c.args.count = omega (arith, c.if-count-eq0.false) in
    let lt : at < length ts = omega (arith, n, c.greatest_of-at.ensures.within some) in
    let up : 0 < get_or xs at 0 = above (get_or xs at 0) c.if-here-eq0.false in
    let step : (r : Record) × ChainStep S.log (get_or ts at 0) (get_or xs at 0) r = cursor-step S.log ts xs good here_are at lt up in
    let r = step.0 in
    let s = step.1 in
    let p = err_from_is_err_and c.from_residual.result c.from_residual.ensures.1 in
    let fails : CannotRead c.in_err-looked.field-0.0 S c.record.new.self = reads-only S (get_or ts at 0) (get_or xs at 0) r s c.record.new.self c.in_err-looked.field-0.0 c.in_err-looked.ensures.err in
    rw (p.1, p.2) (subst (λ (x : Local). CannotRead c.in_err-looked.field-0.0 x c.record.new.self) inv.same fails)

pub returns-in-None-clause-found : goal.returns-in-None-clause-found
returns-in-None-clause-found g c ts v n are =
    let S = c.chains.log in
    let inv = c.chains.invariant in
    let at = c.greatest_of-at.result in
    let xs = c.chains.cursors in
    let good : is_valid S.log ≡ true = subst (λ (x : Local). is_valid x.log ≡ true) (sym inv.same) v in
    let here_are : AreCursors S.log ts xs = subst (λ (x : Local). AreCursors x.log ts xs) (sym inv.same) (inv.chains ts v n are) in
    let some : 0 < c.args.count = omega (arith, c.if-count-eq0.false) in
    let lt : at < length ts = omega (arith, n, c.greatest_of-at.ensures.within some) in
    let up : 0 < get_or xs at 0 = above (get_or xs at 0) c.if-here-eq0.false in
    let step : (r : Record) × ChainStep S.log (get_or ts at 0) (get_or xs at 0) r = cursor-step S.log ts xs good here_are at lt up in
    let r = step.0 in
    let s = step.1 in
    absurd (not-none S (get_or ts at 0) (get_or xs at 0) r s (sym c.in-None.is ∙ c.in_ok-looked.ensures.ok (has-step S (get_or ts at 0) (get_or xs at 0) r s)))

pub returns-then-is_update_record-clause-found : goal.returns-then-is_update_record-clause-found
returns-then-is_update_record-clause-found g c ts v n are =
    let S = c.chains.log in
    let inv = c.chains.invariant in
    let at = c.greatest_of-at.result in
    let xs = c.chains.cursors in
    let good : is_valid S.log ≡ true = subst (λ (x : Local). is_valid x.log ≡ true) (sym inv.same) v in
    let here_are : AreCursors S.log ts xs = subst (λ (x : Local). AreCursors x.log ts xs) (sym inv.same) (inv.chains ts v n are) in
    let some : 0 < c.args.count = omega (arith, c.if-count-eq0.false) in
    let lt : at < length ts = omega (arith, n, c.greatest_of-at.ensures.within some) in
    let up : 0 < get_or xs at 0 = above (get_or xs at 0) c.if-here-eq0.false in
    let step : (r : Record) × ChainStep S.log (get_or ts at 0) (get_or xs at 0) r = cursor-step S.log ts xs good here_are at lt up in
    let r = step.0 in
    let s = step.1 in
    let same : c.in-Some.found ≡ r = is-step S (get_or ts at 0) (get_or xs at 0) r s c.in-Some.found (sym c.in-Some.is ∙ c.in_ok-looked.ensures.ok (has-step S (get_or ts at 0) (get_or xs at 0) r s)) in
    let update : is_update r.body ≡ true = ap (λ (x : Record). is_update x.body) (sym same) ∙ sym c.is_update_record.ensures ∙ c.if-is_update_record.true in
    let newest : IsNewest S.log ts at r = cursor-newest S.log ts xs good here_are at lt r s update (λ j l. c.greatest_of-at.ensures.top j (omega (arith, l, n))) in
    subst (λ (x : Local). IsNewest x.log ts at c.in-Some.found) inv.same (subst (λ (x : Record). IsNewest S.log ts at x) (sym same) newest)

pub returns-then-here-next-clause-found : goal.returns-then-here-next-clause-found
returns-then-here-next-clause-found g c ts v n are =
    let S = c.chains.log in
    let inv = c.chains.invariant in
    let at = c.greatest_of-at.result in
    let xs = c.chains.cursors in
    let good : is_valid S.log ≡ true = subst (λ (x : Local). is_valid x.log ≡ true) (sym inv.same) v in
    let here_are : AreCursors S.log ts xs = subst (λ (x : Local). AreCursors x.log ts xs) (sym inv.same) (inv.chains ts v n are) in
    let some : 0 < c.args.count = omega (arith, c.if-count-eq0.false) in
    let lt : at < length ts = omega (arith, n, c.greatest_of-at.ensures.within some) in
    let up : 0 < get_or xs at 0 = above (get_or xs at 0) c.if-here-eq0.false in
    let step : (r : Record) × ChainStep S.log (get_or ts at 0) (get_or xs at 0) r = cursor-step S.log ts xs good here_are at lt up in
    let r = step.0 in
    let s = step.1 in
    let same : c.in-Some.found ≡ r = is-step S (get_or ts at 0) (get_or xs at 0) r s c.in-Some.found (sym c.in-Some.is ∙ c.in_ok-looked.ensures.ok (has-step S (get_or ts at 0) (get_or xs at 0) r s)) in
    let next : c.next_of-next.result ≡ goes_to r r.body = c.next_of-next.ensures ∙ ap (λ (x : Record). goes_to x x.body) same in
    absurd (omega (arith, next, s.down, c.if-here-next.true))

pub chains-preserved : goal.chains-preserved
chains-preserved g c = record {
  chains = λ ts v n are.
      let S = c.chains.log in
      let inv = c.chains.invariant in
      let at = c.greatest_of-at.result in
      let xs = c.chains.cursors in
      let good : is_valid S.log ≡ true = subst (λ (x : Local). is_valid x.log ≡ true) (sym inv.same) v in
      let here_are : AreCursors S.log ts xs = subst (λ (x : Local). AreCursors x.log ts xs) (sym inv.same) (inv.chains ts v n are) in
      let some : 0 < c.args.count = omega (arith, c.if-count-eq0.false) in
      let lt : at < length ts = omega (arith, n, c.greatest_of-at.ensures.within some) in
      let up : 0 < get_or xs at 0 = above (get_or xs at 0) c.if-here-eq0.false in
      let step : (r : Record) × ChainStep S.log (get_or ts at 0) (get_or xs at 0) r = cursor-step S.log ts xs good here_are at lt up in
      let r = step.0 in
      let s = step.1 in
      let same : c.in-Some.found ≡ r = is-step S (get_or ts at 0) (get_or xs at 0) r s c.in-Some.found (sym c.in-Some.is ∙ c.in_ok-looked.ensures.ok (has-step S (get_or ts at 0) (get_or xs at 0) r s)) in
      let next : c.next_of-next.result ≡ goes_to r r.body = c.next_of-next.ensures ∙ ap (λ (x : Record). goes_to x x.body) same in
      let other : is_update r.body ≡ false = ap (λ (x : Record). is_update x.body) (sym same) ∙ sym c.is_update_record.ensures ∙ c.if-is_update_record.false in
      let moved : AreCursors S.log ts (set xs at c.next_of-next.result) = rw next (cursor-moved S.log ts xs good here_are at lt r s other) in
      subst (λ (x : Local). AreCursors x.log ts (set xs at c.next_of-next.result)) inv.same moved;
  same = c.in_ok-looked.ensures.same ∙ c.chains.invariant.same;
}
