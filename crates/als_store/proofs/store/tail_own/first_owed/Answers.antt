use Rattle.std.proofs.Common.{get_or, Option, Some, ap, ◌∙◌}
use Rattle.als_record.specs.declared.record.Record.{Record}
use Rattle.als_analysis.specs.Open.{fresh_open}
use Rattle.als_takeover.proofs.Next.{first-end}
use Rattle.als_store.proofs.store.tail_own.first_owed.Goals as goal

pub returns-in-Some : goal.returns-in-Some
returns-in-Some c pages log judged valid at_end small =
    let rows = c.rows-rows.result.now in
    let ensured = c.rows-rows.ensures in
    let place = c.in-Some.at in
    ap (λ (r : Record). let found : Option Record = Some r in found) c.record_of.ensures
    ∙ first-end log rows (ensured.rows pages log judged) (ensured.left pages log judged) small c.args.end.0 at_end
    (get_or rows place (fresh_open 0)) (c.in-Some.ensures.found.1 (fresh_open 0))

pub returns-in-None : goal.returns-in-None
returns-in-None c pages log judged valid at_end small =
    let ensured = c.rows-rows.ensures in
    c.undo_of_first.ensures pages log judged (record {
      valid = valid;
      table = ensured.rows pages log judged;
      left = ensured.left pages log judged;
      small = small;
      at_end = at_end;
      none_over = c.in-None.ensures.found;
    })
