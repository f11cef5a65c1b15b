use Rattle.std.proofs.Common.{◌≡◌, ◌≤◌, get_or, ap, subst}
use Rattle.std.proofs.lemmas.Bool.{leb-true}
use Rattle.als_record.specs.declared.transaction_row.TransactionRow.{TransactionRow}
use Rattle.als_analysis.specs.Open.{fresh_open}
use Rattle.als_analysis.proofs.KeptSteps.{place-first}
use Rattle.als_analysis.proofs.trans_table.is_below_all.Goals as goal

pub returns : goal.returns
returns c e =
    let xs = c.args.entries.now in
    let first = fresh_open 0 in
    let t : c.row.result.trans.0 ≡ (get_or xs 0 first).row.trans.0 = ap (λ (r : TransactionRow). r.trans.0) c.row.ensures in
    place-first xs first c.args.trans.0 c.requires (subst (λ n. c.args.trans.0 ≤ n) t (leb-true c.args.trans.0 c.row.result.trans.0 e))
