use Rattle.std.proofs.Common.{◌≡◌, sym, ap, ◌∙◌}
use Rattle.als_record.specs.declared.transaction_row.TransactionRow.{TransactionRow}
use Rattle.als_record.specs.Table.{row_of, is_prepared}
use Rattle.als_analysis.specs.Noted.{IsOpenOf}
use Rattle.als_store.proofs.DecisionLaws.{prepared-is_in_doubt, ended-is_in_doubt}
use Rattle.als_store.proofs.store.takeover.is_in_doubt.Goals as goal

pub returns-in-Some : goal.returns-in-Some
returns-in-Some c pages log judged =
    let f : IsOpenOf c.in-Some.kept.now log c.args.trans.0 = c.in-Some.ensures log (c.table.ensures.table pages log judged) in
    let row : c.row.result ≡ row_of log c.args.trans.0 = c.row.ensures ∙ f.row in
    c.does_wait.ensures ∙ ap (λ (x : TransactionRow). is_prepared x.state) row ∙ prepared-is_in_doubt log c.args.trans.0 f.unended

pub returns-in-None : goal.returns-in-None
returns-in-None c pages log judged = sym (ended-is_in_doubt log c.args.trans.0 (c.in-None.ensures log (c.table.ensures.table pages log judged)))
