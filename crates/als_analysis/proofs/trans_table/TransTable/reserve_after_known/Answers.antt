use Rattle.std.proofs.Common.{◌≡◌, ◌+◌, ◌-◌, ◌%◌, ◌^◌, ◌≤◌, [], ◌∷◌, ◌++◌, get_or, sym, ap, ◌∙◌, arith}
use Rattle.std.specs.List.{sum_by}
use Rattle.std.proofs.lemmas.List.Sums.{get_or-le-sum_by}
use Rattle.als_record.specs.Shown.{shown}
use Rattle.als_record.specs.Table.{fresh_row}
use Rattle.als_analysis.specs.Open.{owed, owed_after}
use Rattle.als_analysis.specs.Noted.{Table}
use Rattle.als_analysis.proofs.Counting.{wrapped-sub, replaced}
use Rattle.als_analysis.proofs.ReserveAfter.{place, Owes, after-more, after-end}
use Rattle.als_analysis.proofs.trans_table.TransTable.reserve_after_known.Goals as goal

pub returns-then-is_end_record : goal.returns-then-is_end_record
returns-then-is_end_record c log h m =
    let xs = c.self.inside.entries.items in
    let e = c.index-entry.result.now in
    let r = shown c.args.logged.now in
    let was : c.owed.result ≡ owed (get_or xs c.args.at e) % 2 ^ 64 = c.owed.ensures ∙ ap (λ o. owed o % 2 ^ 64) c.index-entry.ensures in
    let o : Owes (log ++ r ∷ []) (sum_by owed xs) (owed (get_or xs c.args.at e)) 0 =
    after-end log r c.args.self.now xs h (ap (λ (t : Table). t.rows) c.self.view_is) (ap (λ (t : Table). t.bytes) c.self.view_is) c.requires.kind m c.args.at (fresh_row 0) e c.requires.within (c.requires.here (fresh_row 0)) (sym c.if-is_end_record.ensures) in
    let is : sum_by owed xs ≡ o.new + owed (get_or xs c.args.at e) = omega (arith, o.is) in
    rw (was, c.self.invariant.counted, is) (wrapped-sub o.new (owed (get_or xs c.args.at e)) ∙ o.reserve)

pub returns : goal.returns
returns c log h m =
    let xs = c.self.inside.entries.items in
    let e = c.index-entry.result.now in
    let r = shown c.args.logged.now in
    let was : c.owed.result ≡ owed (get_or xs c.args.at e) % 2 ^ 64 = c.owed.ensures ∙ ap (λ o. owed o % 2 ^ 64) c.index-entry.ensures in
    let next : c.owed_after.result ≡ owed_after (get_or xs c.args.at e).row.state (get_or xs c.args.at e).undo_bytes r.body % 2 ^ 64 = c.owed_after.ensures ∙ ap (λ o. owed_after o.row.state o.undo_bytes r.body % 2 ^ 64) c.index-entry.ensures in
    let o : Owes (log ++ r ∷ []) (sum_by owed xs) (owed (get_or xs c.args.at e)) (owed_after (get_or xs c.args.at e).row.state (get_or xs c.args.at e).undo_bytes r.body) =
    after-more log r c.args.self.now xs h (ap (λ (t : Table). t.rows) c.self.view_is) (ap (λ (t : Table). t.bytes) c.self.view_is) c.requires.kind m c.args.at (fresh_row 0) e c.requires.within (c.requires.here (fresh_row 0)) (sym c.if-is_end_record.ensures) in
    let less : owed (get_or xs c.args.at e) ≤ sum_by owed xs = get_or-le-sum_by owed xs c.args.at e (place xs c.args.self.now c.args.at (ap (λ (t : Table). t.rows) c.self.view_is) c.requires.within) in
    rw (was, next)
    (replaced (sum_by owed xs - owed (get_or xs c.args.at e)) (sum_by owed xs) o.new (owed (get_or xs c.args.at e)) (owed_after (get_or xs c.args.at e).row.state (get_or xs c.args.at e).undo_bytes r.body)
    c.self.inside.reserve (omega arith) (omega (arith, o.is)) c.self.invariant.counted ∙ o.reserve)
