use Rattle.std.proofs.Common.{◌≡◌, length, Option, Some, ap, ◌∙◌}
use Rattle.std.proofs.lemmas.Result.{err_from_is_err_and}
use Rattle.als_record.specs.declared.record.Record.{Record}
use Rattle.als_record.specs.Transactions.{unended}
use Rattle.als_analysis.specs.Open.{fresh_open}
use Rattle.als_takeover.specs.Next.{AreCursors, NoneToUndo, IsNewest}
use Rattle.als_takeover.proofs.Next.{first-none, first-undo, cursors-rows, as_many}
use Rattle.als_takeover.proofs.undo.undo_along.Goals as goal

pub returns-in_err-newest-clause-err : goal.returns-in_err-newest-clause-err
returns-in_err-newest-clause-err g c h =
    let log = c.args.log.now.log in
    let es = c.args.rows.now in
    let are : AreCursors log (unended log) c.cursors_of-cursors.result = cursors-rows log es h.table h.left h.small c.args.end.0 h.at_end h.none_over h.valid c.cursors_of-cursors.result c.cursors_of-cursors.ensures in
    let many : length (unended log) ≡ length es = as_many log es h.table h.left h.small c.args.end.0 h.at_end in
    let p = err_from_is_err_and c.from_residual.result c.from_residual.ensures.1 in
    rw (p.1, p.2) (c.in_err-newest.ensures.err (unended log) h.valid many are)

pub returns-in-Some-clause-next : goal.returns-in-Some-clause-next
returns-in-Some-clause-next g c h =
    let log = c.args.log.now.log in
    let es = c.args.rows.now in
    let are : AreCursors log (unended log) c.cursors_of-cursors.result = cursors-rows log es h.table h.left h.small c.args.end.0 h.at_end h.none_over h.valid c.cursors_of-cursors.result c.cursors_of-cursors.ensures in
    let many : length (unended log) ≡ length es = as_many log es h.table h.left h.small c.args.end.0 h.at_end in
    let newest : IsNewest log (unended log) c.in-Some.at c.in-Some.update = (rw c.in-Some.is at c.in_ok-newest.ensures.found (unended log) h.valid many are) in
    ap (λ (r : Record). let found : Option Record = Some r in found) c.compensation_of-made.ensures ∙ first-undo log es h.table h.left h.small c.args.end.0 h.at_end h.none_over h.valid c.in-Some.at (fresh_open 0) c.in-Some.update newest

pub returns-in-None-clause-next : goal.returns-in-None-clause-next
returns-in-None-clause-next g c h =
    let log = c.args.log.now.log in
    let es = c.args.rows.now in
    let are : AreCursors log (unended log) c.cursors_of-cursors.result = cursors-rows log es h.table h.left h.small c.args.end.0 h.at_end h.none_over h.valid c.cursors_of-cursors.result c.cursors_of-cursors.ensures in
    let many : length (unended log) ≡ length es = as_many log es h.table h.left h.small c.args.end.0 h.at_end in
    let none : NoneToUndo log (unended log) = (rw c.in-None.is at c.in_ok-newest.ensures.found (unended log) h.valid many are) in
    first-none log es h.table h.left h.small c.args.end.0 h.at_end h.none_over none
