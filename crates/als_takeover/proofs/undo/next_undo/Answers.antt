use Rattle.std.proofs.Common.{◌≡◌, ◌<◌, ◌%◌, ◌^◌, length, map, get_or, Option, Some, true, sym, ap, ◌∙◌, arith}
use Rattle.std.specs.Prelude.{find}
use Rattle.std.proofs.lemmas.Bool.{eqb-true}
use Rattle.als_record.specs.declared.record.Record.{Record}
use Rattle.als_record.specs.LogText.{end_of}
use Rattle.als_record.specs.Table.{table_of}
use Rattle.als_record.specs.Transactions.{unended}
use Rattle.als_analysis.specs.Noted.{survivor_count}
use Rattle.als_analysis.specs.Open.{fresh_open, rows_of, left_of}
use Rattle.als_takeover.specs.Next.{is_over}
use Rattle.als_takeover.proofs.Next.{first-end, none-tail}
use Rattle.als_takeover.proofs.undo.next_undo.Goals as goal

pub returns-then-is_empty-clause-next : goal.returns-then-is_empty-clause-next
returns-then-is_empty-clause-next g c v h =
    let log = c.args.log.now.log in
    let es = c.rows-rows.result.now in
    let rows : rows_of es ≡ table_of log = c.rows-rows.ensures.table log h in
    let left : left_of es ≡ map (λ t. survivor_count log t % 2 ^ 64) (unended log) = c.rows-rows.ensures.left ∙ h.left in
    let small : end_of log < 2 ^ 64 = omega (arith, c.end-end.ensures.facts.fits, c.end-end.ensures.facts.few) in
    let empty : length es ≡ 0 = eqb-true (length es) 0 (sym c.is_empty.ensures ∙ c.if-is_empty.true) in
    none-tail log es rows left small c.end-end.result.0 c.end-end.ensures.end empty

pub returns-then-is_finished-clause-next : goal.returns-then-is_finished-clause-next
returns-then-is_finished-clause-next g c v h =
    let log = c.args.log.now.log in
    let es = c.rows-rows.result.now in
    let end = c.end-end.result.0 in
    let rows : rows_of es ≡ table_of log = c.rows-rows.ensures.table log h in
    let left : left_of es ≡ map (λ t. survivor_count log t % 2 ^ 64) (unended log) = c.rows-rows.ensures.left ∙ h.left in
    let small : end_of log < 2 ^ 64 = omega (arith, c.end-end.ensures.facts.fits, c.end-end.ensures.facts.few) in
    let over : is_over (get_or es c.turn_of-at.result (fresh_open 0)) ≡ true = sym c.is_finished.ensures ∙ c.if-is_finished.true in
    let found : find is_over es ≡ Some (get_or es c.turn_of-at.result (fresh_open 0)) = c.turn_of-at.ensures.over (fresh_open 0) over in
    ap (λ (r : Record). let found : Option Record = Some r in found) c.record_of.ensures ∙ first-end log es rows left small end c.end-end.ensures.end (get_or es c.turn_of-at.result (fresh_open 0)) found
