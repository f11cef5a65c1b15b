use Rattle.std.proofs.Common.{◌≡◌, ◌<◌, ◌-◌, List, length, get_or, reverse, Option, Some, sym, ap, ◌∙◌, refl, arith}
use Rattle.std.specs.Prelude.{slice_get}
use Rattle.std.proofs.lemmas.List.{length-map, get_or-map}
use Rattle.als_record.specs.declared.record.Record.{Record}
use Rattle.als_record.specs.declared.transaction_row.TransactionRow.{TransactionRow}
use Rattle.als_record.specs.Table.{row_of}
use Rattle.als_record.specs.Transactions.{surviving, to_undo}
use Rattle.als_analysis.specs.declared.open_row.OpenRow.{OpenRow}
use Rattle.als_analysis.specs.Open.{fresh_open, rows_of}
use Rattle.als_analysis.specs.Noted.{StandsAt}
use Rattle.als_analysis.proofs.LogSteps.{row-standing}
use Rattle.als_validator.proofs.StateSteps.{last-reverse}
use Rattle.als_validator.proofs.ListSteps.{list-standing}
use Rattle.als_validator.proofs.past.past_of.Goals as goal

pub returns-in-Some : goal.returns-in-Some
unfolding surviving
returns-in-Some c log h are =
    let t = c.args.trans.0 in
    let at = c.in-Some.at in
    let xs = c.rows.result.now in
    let s : StandsAt log t at = c.in-Some.ensures.stands log h in
    let n : length (rows_of xs) ≡ length xs = length-map xs (λ o. o.row) in
    let m : length (rows_of xs) ≡ length c.args.table.now.rows = ap (λ (rows : List TransactionRow). length rows) c.rows.ensures.rows in
    let lt : at < length xs = omega (arith, c.in-Some.ensures.within) in
    let row : c.row.result ≡ row_of log t =
    c.row.ensures ∙ sym (get_or-map (λ (o : OpenRow). o.row) xs at (fresh_open 0) (fresh_open 0).row lt) ∙ ap (λ rows. get_or rows at (fresh_open 0).row) (c.rows.ensures.table log h) ∙ row-standing log at t (fresh_open 0).row s in
    let left : c.at.result.now ≡ reverse (to_undo log t) = c.at.ensures ∙ list-standing log c.args.survivors.now.lists t at are s in
    record {
      row = rw s.is_open (ap (λ (r : TransactionRow). let o : Option TransactionRow = Some r in o) row);
      newest = rw s.is_open (c.last.ensures.value ∙ ap (λ (us : List Record). slice_get us (length us - 1)) left ∙ last-reverse (to_undo log t));
    }

pub returns-in-None : goal.returns-in-None
returns-in-None c log h are = let f = c.in-None.ensures.stands log h in record { row = rw f refl; newest = rw f refl }
