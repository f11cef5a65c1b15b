use Rattle.std.proofs.Common.{◌≡◌, true, get_or, Option, Some, sym, ap, ◌∙◌}
use Rattle.std.proofs.lemmas.Result.{err_from_is_err_and}
use Rattle.als_record.specs.declared.record.Record.{Record}
use Rattle.als_record.specs.Transactions.{is_update, unended}
use Rattle.als_record.proofs.ChainReads.{ChainStep}
use Rattle.als_analysis.specs.Open.{fresh_open}
use Rattle.als_takeover.specs.Next.{cursor_in, undo_of}
use Rattle.als_takeover.proofs.Next.{above, head-none, head-step, head-undo}
use Rattle.als_takeover.proofs.Looks.{has-step, reads-only, is-step}
use Rattle.als_takeover.proofs.undo.undo_at.Goals as goal

pub returns-then-here-eq0-clause-next : goal.returns-then-here-eq0-clause-next
returns-then-here-eq0-clause-next g c h =
    head-none c.args.log.now.log c.args.rows.now c.args.end.0 h c.args.at c.requires.within c.cursor_of-here.result (c.cursor_of-here.ensures ∙ ap cursor_in c.row.ensures) c.if-here-eq0.true c.requires.top

pub returns-in_err-looked-clause-err : goal.returns-in_err-looked-clause-err
returns-in_err-looked-clause-err g c h =
    let S = c.args.log.now in
    let n = c.cursor_of-here.result in
    let t = get_or (unended S.log) c.args.at 0 in
    let is = c.cursor_of-here.ensures ∙ ap cursor_in c.row.ensures in
    let step : (r : Record) × ChainStep S.log t n r = head-step S.log c.args.rows.now c.args.end.0 h c.args.at c.requires.within n is (above n c.if-here-eq0.false) in
    let p = err_from_is_err_and c.from_residual.result c.from_residual.ensures.1 in
    rw (p.1, p.2) (reads-only S t n step.0 step.1 c.record.new.self c.in_err-looked.field-0.0 c.in_err-looked.ensures.err)

pub returns-then-is_update_record-clause-next : goal.returns-then-is_update_record-clause-next
returns-then-is_update_record-clause-next g c h =
    let S = c.args.log.now in
    let n = c.cursor_of-here.result in
    let at = c.args.at in
    let t = get_or (unended S.log) at 0 in
    let is = c.cursor_of-here.ensures ∙ ap cursor_in c.row.ensures in
    let step : (r : Record) × ChainStep S.log t n r = head-step S.log c.args.rows.now c.args.end.0 h at c.requires.within n is (above n c.if-here-eq0.false) in
    let r = step.0 in
    let s = step.1 in
    let same : c.in-Some.found ≡ r = is-step S t n r s c.in-Some.found (sym c.in-Some.is ∙ c.in_ok-looked.ensures.ok (has-step S t n r s)) in
    let update : is_update r.body ≡ true = ap (λ (x : Record). is_update x.body) (sym same) ∙ sym c.is_update_record.ensures ∙ c.if-is_update_record.true in
    ap (λ (made : Record). let found : Option Record = Some made in found) (c.compensation_of-made.ensures ∙ ap (λ (x : Record). undo_of (get_or c.args.rows.now at (fresh_open 0)) c.args.end x) same)
    ∙ head-undo S.log c.args.rows.now c.args.end.0 h at c.requires.within n is r s update c.requires.top
