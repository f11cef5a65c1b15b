use Rattle.std.proofs.Common.{◌≡◌, ◌+◌, ◌-◌, ◌<◌, length, get_or, ap, subst, arith}
use Rattle.std.proofs.lemmas.Bool.{ltb-true}
use Rattle.als_record.specs.declared.transaction_row.TransactionRow.{TransactionRow}
use Rattle.als_analysis.specs.Open.{fresh_open}
use Rattle.als_analysis.proofs.KeptSteps.{place-last}
use Rattle.als_analysis.proofs.trans_table.is_above_all.Goals as goal

pub returns : goal.returns
returns c e =
    let xs = c.args.entries.now in
    let last = fresh_open 0 in
    let n = length xs - 1 in
    let count : length xs ≡ n + 1 = omega (arith, c.if-count-eq0.false) in
    let t : c.row.result.trans.0 ≡ (get_or xs n last).row.trans.0 = ap (λ (r : TransactionRow). r.trans.0) c.row.ensures in
    place-last xs last c.args.trans.0 n c.requires count (subst (λ m. m < c.args.trans.0) t (ltb-true c.row.result.trans.0 c.args.trans.0 e))
