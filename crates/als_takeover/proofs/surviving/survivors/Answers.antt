use Rattle.std.proofs.Common.{◌≡◌, ◌<◌, ◌≤◌, ◌^◌, List, length, reverse, sym, ap, ◌∙◌, arith}
use Rattle.std.proofs.Math.Nat.{mod-eq_of_lt}
use Rattle.std.proofs.lemmas.Result.{err_from_is_err_and}
use Rattle.als_record.specs.declared.lsn.Lsn.{Lsn}
use Rattle.als_record.specs.declared.record.Record.{Record}
use Rattle.als_record.specs.declared.transaction_row.TransactionRow.{TransactionRow}
use Rattle.als_record.specs.LogText.{end_of}
use Rattle.als_record.specs.Transactions.{to_undo, undo_next_of, surviving}
use Rattle.als_record.specs.UndoChain.{undo_chain, backwards}
use Rattle.als_record.proofs.Chain.{undo_chain-is}
use Rattle.als_analysis.specs.Noted.{IsOpenOf, survivor_count}
use Rattle.als_analysis.proofs.LogSteps.{undo_next_of-row}
use Rattle.als_takeover.proofs.Next.{survivor_count-below}
use Rattle.als_takeover.proofs.Walks.{collects}
use Rattle.als_takeover.proofs.surviving.survivors.Goals as goal

pub returns-in_err-walk-in-Some-clause-err : goal.returns-in_err-walk-in-Some-clause-err
returns-in_err-walk-in-Some-clause-err g c v h =
    let log = c.args.log.now.log in
    let t = c.args.trans.0 in
    let f : IsOpenOf c.in-Some.kept.now log t = c.in-Some.ensures log h in
    let at : c.row.result.undo_next.0 ≡ undo_next_of log t = ap (λ (r : TransactionRow). r.undo_next.0) (c.row.ensures ∙ f.row) ∙ ap (λ (l : Lsn). l.0) (undo_next_of-row log t) in
    let chain : undo_chain c.row.result.undo_next.0 (backwards log t) ≡ to_undo log t = ap (λ n. undo_chain n (backwards log t)) at ∙ undo_chain-is log t v in
    let low : survivor_count log t ≤ end_of log = survivor_count-below t log in
    let few : survivor_count log t < 2 ^ 64 = omega (arith, low, c.end.ensures.facts.fits, c.end.ensures.facts.few) in
    let all : length (to_undo log t) ≡ c.left-count.result = sym (c.left-count.ensures ∙ f.left ∙ mod-eq_of_lt few) in
    let p = err_from_is_err_and c.from_residual-in_err-walk-in-Some.result c.from_residual-in_err-walk-in-Some.ensures.1 in
    rw (p.1, p.2) (collects c.in_err-walk-in-Some.field-0.0 c.args.log.now c.walk.new.log (c.in_err-walk-in-Some.ensures.err t v chain all))

pub returns-in_ok-walk-in-Some-clause-ok : goal.returns-in_ok-walk-in-Some-clause-ok
unfolding surviving
returns-in_ok-walk-in-Some-clause-ok g c v h =
    let log = c.args.log.now.log in
    let t = c.args.trans.0 in
    let f : IsOpenOf c.in-Some.kept.now log t = c.in-Some.ensures log h in
    let at : c.row.result.undo_next.0 ≡ undo_next_of log t = ap (λ (r : TransactionRow). r.undo_next.0) (c.row.ensures ∙ f.row) ∙ ap (λ (l : Lsn). l.0) (undo_next_of-row log t) in
    let chain : undo_chain c.row.result.undo_next.0 (backwards log t) ≡ to_undo log t = ap (λ n. undo_chain n (backwards log t)) at ∙ undo_chain-is log t v in
    let low : survivor_count log t ≤ end_of log = survivor_count-below t log in
    let few : survivor_count log t < 2 ^ 64 = omega (arith, low, c.end.ensures.facts.fits, c.end.ensures.facts.few) in
    let all : length (to_undo log t) ≡ c.left-count.result = sym (c.left-count.ensures ∙ f.left ∙ mod-eq_of_lt few) in
    rw f.unended (c.reverse.ensures.items ∙ ap (λ (us : List Record). reverse us) (c.in_ok-walk-in-Some.ensures.found t v chain all))
