use Rattle.std.proofs.Common.{◌≡◌, ◌%◌, ◌^◌, ◌<◌, length, get_or, sym, ap, ◌∙◌, arith}
use Rattle.std.specs.List.{remove}
use Rattle.std.proofs.lemmas.List.{length-map}
use Rattle.als_analysis.specs.declared.open_row.OpenRow.{OpenRow}
use Rattle.als_analysis.specs.Open.{owed, rows_of, left_of, bytes_of}
use Rattle.als_analysis.specs.Noted.{Table}
use Rattle.als_analysis.proofs.KeptSteps.{kept-remove, remove-map}
use Rattle.als_analysis.proofs.trans_table.TransTable.close.Goals as goal

pub invariant_of-self : goal.invariant_of-self
invariant_of-self c =
    let xs = c.self.inside.entries.items in
    let e = c.remove-ended.result in
    let n : length (rows_of xs) ≡ length xs = length-map xs (λ o. o.row) in
    let m : length (rows_of xs) ≡ length c.args.self.now.rows = ap (λ (t : Table). length t.rows) c.self.view_is in
    let lt : c.args.at < length xs = omega (arith, c.requires.within) in
    let was : c.owed.result ≡ owed (get_or xs c.args.at e) % 2 ^ 64 = c.owed.ensures ∙ ap (λ o. owed o % 2 ^ 64) c.remove-ended.ensures.value in
    rw (was, c.remove-ended.ensures.items, c.remove-ended.ensures.capacity) (kept-remove xs c.self.inside.reserve c.self.inside.entries.cap c.self.invariant c.args.at e lt)

pub returns-clause-rows : goal.returns-clause-rows
returns-clause-rows c =
    let xs = c.self.inside.entries.items in
    let n : length (rows_of xs) ≡ length xs = length-map xs (λ o. o.row) in
    let m : length (rows_of xs) ≡ length c.args.self.now.rows = ap (λ (t : Table). length t.rows) c.self.view_is in
    let lt : c.args.at < length xs = omega (arith, c.requires.within) in
    ap rows_of c.remove-ended.ensures.items ∙ sym (remove-map (λ (o : OpenRow). o.row) xs c.args.at lt) ∙ ap (λ (t : Table). remove t.rows c.args.at) c.self.view_is

pub returns-clause-left : goal.returns-clause-left
returns-clause-left c =
    let xs = c.self.inside.entries.items in
    let n : length (rows_of xs) ≡ length xs = length-map xs (λ o. o.row) in
    let m : length (rows_of xs) ≡ length c.args.self.now.rows = ap (λ (t : Table). length t.rows) c.self.view_is in
    let lt : c.args.at < length xs = omega (arith, c.requires.within) in
    ap left_of c.remove-ended.ensures.items ∙ sym (remove-map (λ (o : OpenRow). o.left) xs c.args.at lt) ∙ ap (λ (t : Table). remove t.left c.args.at) c.self.view_is

pub returns-clause-bytes : goal.returns-clause-bytes
returns-clause-bytes c =
    let xs = c.self.inside.entries.items in
    let n : length (rows_of xs) ≡ length xs = length-map xs (λ o. o.row) in
    let m : length (rows_of xs) ≡ length c.args.self.now.rows = ap (λ (t : Table). length t.rows) c.self.view_is in
    let lt : c.args.at < length xs = omega (arith, c.requires.within) in
    ap bytes_of c.remove-ended.ensures.items ∙ sym (remove-map (λ (o : OpenRow). o.undo_bytes) xs c.args.at lt) ∙ ap (λ (t : Table). remove t.bytes c.args.at) c.self.view_is
