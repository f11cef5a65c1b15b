use Rattle.std.proofs.Common.{◌≡◌, sym, ap, ◌∙◌}
use Rattle.std.proofs.lemmas.Bool.{false≢true}
use Rattle.als_record.specs.declared.transaction_row.TransactionRow.{TransactionRow}
use Rattle.als_record.specs.Table.{row_of}
use Rattle.als_analysis.specs.Noted.{IsOpenOf}
use Rattle.als_store.proofs.DecisionLaws.{last-row}
use Rattle.als_store.proofs.store.takeover.last_of.Goals as goal

pub returns-in-Some : goal.returns-in-Some
returns-in-Some c pages log judged unended =
    let f : IsOpenOf c.in-Some.kept.now log c.args.trans.0 = c.in-Some.ensures log (c.table.ensures.table pages log judged) in
    let row : c.row.result ≡ row_of log c.args.trans.0 = c.row.ensures ∙ f.row in
    ap (λ (x : TransactionRow). x.last.0) row ∙ last-row log c.args.trans.0

pub returns-in-None : goal.returns-in-None
returns-in-None c pages log judged unended = absurd (false≢true (sym (c.in-None.ensures log (c.table.ensures.table pages log judged)) ∙ unended))
