use Rattle.std.proofs.Common.{◌≡◌, sym, ap, ◌∙◌}
use Rattle.als_record.specs.Table.{row_of}
use Rattle.als_analysis.specs.Noted.{IsOpenOf}
use Rattle.als_validator.specs.Tests.{goes_on}
use Rattle.als_validator.proofs.StateSteps.{goes_on-open, is_open-ended}
use Rattle.als_record.specs.declared.transaction_row.TransactionRow.{TransactionRow}
use Rattle.als_validator.proofs.causes.is_still_open.Goals as goal

pub returns-in-Some : goal.returns-in-Some
returns-in-Some c log h =
    let f : IsOpenOf c.in-Some.kept.now log c.args.trans.0 = c.in-Some.ensures log h in
    let row : c.row.result ≡ row_of log c.args.trans.0 = c.row.ensures ∙ f.row in
    c.does_go_on.ensures ∙ ap (λ (x : TransactionRow). goes_on x.state) row ∙ goes_on-open log c.args.trans.0 f.unended

pub returns-in-None : goal.returns-in-None
returns-in-None c log h = sym (is_open-ended log c.args.trans.0 (c.in-None.ensures log h))
