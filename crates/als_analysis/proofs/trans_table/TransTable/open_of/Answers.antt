use Rattle.std.proofs.Common.{◌≡◌, ◌<◌, length, get_or, sym, ap, ◌∙◌, arith}
use Rattle.std.proofs.lemmas.List.{get_or-map, length-map}
use Rattle.als_analysis.specs.declared.open_row.OpenRow.{OpenRow}
use Rattle.als_analysis.specs.Open.{rows_of}
use Rattle.als_analysis.specs.Noted.{Table}
use Rattle.als_analysis.proofs.LogSteps.{Found, row-found, row-absent}
use Rattle.als_analysis.proofs.trans_table.TransTable.open_of.Goals as goal

pub returns-in-Some : goal.returns-in-Some
returns-in-Some c log h =
    let xs = c.self.inside.entries.items in
    let e = c.index.result.now in
    let i = c.in-Some.at in
    let n : length (rows_of xs) ≡ length xs = length-map xs (λ o. o.row) in
    let m : length (rows_of xs) ≡ length c.args.self.now.rows = ap (λ (t : Table). length t.rows) c.self.view_is in
    let w : i < length c.args.self.now.rows = c.in-Some.ensures.within in
    let lt : i < length xs = omega arith in
    let f : Found log c.args.self.now i c.args.trans.0 = row-found log c.args.self.now i c.args.trans.0 h w c.in-Some.ensures.here in
    record {
      unended = f.is_open;
      row = ap (λ (o : OpenRow). o.row) c.index.ensures ∙ sym (get_or-map (λ (o : OpenRow). o.row) xs i e e.row lt) ∙ ap (λ (t : Table). get_or t.rows i e.row) c.self.view_is ∙ f.row e.row;
      left = ap (λ (o : OpenRow). o.left) c.index.ensures ∙ sym (get_or-map (λ (o : OpenRow). o.left) xs i e 0 lt) ∙ ap (λ (t : Table). get_or t.left i 0) c.self.view_is ∙ f.left;
    }

pub returns-in-None : goal.returns-in-None
returns-in-None c log h = row-absent log c.args.self.now c.args.trans.0 h c.in-None.ensures.none
