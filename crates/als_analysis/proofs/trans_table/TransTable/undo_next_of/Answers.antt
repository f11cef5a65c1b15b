use Rattle.std.proofs.Common.{◌≡◌, ◌<◌, length, get_or, refl, sym, ap, ◌∙◌, arith}
use Rattle.std.specs.Prelude.{Option, Some}
use Rattle.std.proofs.lemmas.List.{get_or-map, length-map}
use Rattle.als_record.specs.declared.lsn.Lsn.{Lsn}
use Rattle.als_record.specs.declared.transaction_row.TransactionRow.{TransactionRow}
use Rattle.als_record.specs.Table.{row_of}
use Rattle.als_analysis.specs.declared.open_row.OpenRow.{OpenRow}
use Rattle.als_analysis.specs.Open.{rows_of}
use Rattle.als_analysis.specs.Noted.{Table}
use Rattle.als_analysis.proofs.LogSteps.{Found, row-found, row-absent, undo_next_of-row}
use Rattle.als_analysis.proofs.trans_table.TransTable.undo_next_of.Goals as goal

pub returns-in-Some : goal.returns-in-Some
returns-in-Some c log h =
    let xs = c.self.inside.entries.items in
    let e = c.index.result.now in
    let i = c.in-Some.at in
    let n : length (rows_of xs) ≡ length xs = length-map xs (λ o. o.row) in
    let m : length (rows_of xs) ≡ length c.args.self.now.rows = ap (λ (t : Table). length t.rows) c.self.view_is in
    let w : i < length c.args.self.now.rows = c.in-Some.ensures.within in
    let lt : i < length xs = omega arith in
    let f : Found log c.args.self.now i c.args.trans.0 = row-found log c.args.self.now i c.args.trans.0 h w c.in-Some.ensures.here in
    let row : c.row.result ≡ row_of log c.args.trans.0 =
    c.row.ensures ∙ ap (λ (o : OpenRow). o.row) c.index.ensures ∙ sym (get_or-map (λ (o : OpenRow). o.row) xs i e e.row lt) ∙ ap (λ (t : Table). get_or t.rows i e.row) c.self.view_is ∙ f.row e.row in
    rw f.is_open (ap (λ (l : Lsn). let o : Option Lsn = Some l in o) (ap (λ (r : TransactionRow). r.undo_next) row ∙ undo_next_of-row log c.args.trans.0))

pub returns-in-None : goal.returns-in-None
returns-in-None c log h = rw (row-absent log c.args.self.now c.args.trans.0 h c.in-None.ensures.none) refl
