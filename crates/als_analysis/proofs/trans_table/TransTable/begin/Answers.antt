use Rattle.std.proofs.Common.{◌≡◌, ◌<◌, length, sym, ap, ◌∙◌, subst, arith}
use Rattle.std.specs.List.{All}
use Rattle.std.proofs.lemmas.List.{length-map, get_or-map}
use Rattle.als_record.specs.declared.transaction_row.TransactionRow.{TransactionRow}
use Rattle.als_record.specs.Shown.{shown}
use Rattle.als_analysis.specs.declared.open_row.OpenRow.{OpenRow}
use Rattle.als_analysis.specs.Open.{rows_of, open_after}
use Rattle.als_analysis.specs.Noted.{Table}
use Rattle.als_analysis.proofs.KeptSteps.{kept-push}
use Rattle.als_analysis.proofs.trans_table.TransTable.begin.Goals as goal

pub invariant_of-self : goal.invariant_of-self
invariant_of-self c =
    let xs = c.self.inside.entries.items in
    let o = c.extend.new.self in
    let n : length (rows_of xs) ≡ length xs = length-map xs (λ o. o.row) in
    let m : length (rows_of xs) ≡ length c.args.self.now.rows = ap (λ (t : Table). length t.rows) c.self.view_is in
    let few : length xs < 256 = omega (arith, c.requires.few) in
    let t : o.row.trans.0 ≡ c.args.logged.now.trans.0 = ap (λ (p : OpenRow). p.row.trans.0) (c.extend.ensures ∙ ap (λ (p : OpenRow). open_after p (shown c.args.logged.now)) c.fresh-opened.ensures) in
    let rising : All (λ row. row.trans.0 < c.args.logged.now.trans.0) (rows_of xs) = subst (λ (t : Table). All (λ row. row.trans.0 < c.args.logged.now.trans.0) t.rows) (sym c.self.view_is) c.requires.rising in
    let above : All (λ x. x.row.trans.0 < o.row.trans.0) xs = λ i d lt. rw t (subst (λ (r : TransactionRow). r.trans.0 < c.args.logged.now.trans.0) (get_or-map (λ (o : OpenRow). o.row) xs i d d.row lt) (rising i d.row (omega arith))) in
    rw (c.push_reserved.ensures.items, c.owed.ensures, c.push_reserved.ensures.capacity) (kept-push xs c.self.inside.reserve c.self.inside.entries.cap c.self.invariant o above few)
