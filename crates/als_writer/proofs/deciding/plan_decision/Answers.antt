use Rattle.std.proofs.Common.{◌≡◌, false, List, sym, subst, ◌∙◌}
use Rattle.std.specs.List.{list_any}
use Rattle.std.proofs.lemmas.Result.{err_from_is_err_and}
use Rattle.als_record.specs.declared.record.Record.{Record as AnyRecord}
use Rattle.als_record.specs.declared.transaction_row.TransactionRow.{TransactionRow}
use Rattle.als_record.specs.Table.{table_of}
use Rattle.als_writer.specs.Deciding.{doubts_it, IsRowOf}
use Rattle.als_writer.proofs.Doubts.{any_doubts, row-doubted, decision_made}
use Rattle.als_writer.proofs.deciding.plan_decision.Goals as goal

pub returns-in_err-check_decidable-clause-refused : goal.returns-in_err-check_decidable-clause-refused
returns-in_err-check_decidable-clause-refused g c =
    let p = err_from_is_err_and c.from_residual.result c.from_residual.ensures.1 in
    rw (p.1, p.2) (λ a. c.in_err-check_decidable.ensures.refused a c.args.trans)

pub returns-in-None-clause-refused : goal.returns-in-None-clause-refused
returns-in-None-clause-refused g c a =
    let log : List AnyRecord = (g.E.Events.machine c.args.engine.now).held.log in
    sym (any_doubts log c.args.trans)
    ∙ subst (λ (rows : List TransactionRow). list_any (doubts_it c.args.trans) rows ≡ false) (c.deref.ensures.value ∙ c.in-Ok.ensures.rows a) c.in-None.ensures

pub returns-clause-planned : goal.returns-clause-planned
returns-clause-planned g c a =
    let log : List AnyRecord = (g.E.Events.machine c.args.engine.now).held.log in
    let row : IsRowOf (table_of log) c.args.trans c.in-Some.row = subst (λ (rows : List TransactionRow). IsRowOf rows c.args.trans c.in-Some.row) (c.deref.ensures.value ∙ c.in-Ok.ensures.rows a) c.in-Some.ensures in
    let tidy = c.in_ok-check_decidable.ensures.tidy a in
    let told = c.status.ensures.tells a in
    let stands = c.status.ensures.stands a in
    record {
      partial = tidy.partial;
      owed = tidy.owed;
      valid = stands.log;
      doubted = (row-doubted log c.args.trans c.in-Some.row row).0;
      is = decision_made log c.args.trans c.in-Some.row c.status.result.end c.body_of.result c.args.verdict row told.end c.body_of.ensures;
    }
