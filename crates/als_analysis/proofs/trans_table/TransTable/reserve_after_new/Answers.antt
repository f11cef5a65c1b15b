use Rattle.std.proofs.Common.{◌≡◌, ◌+◌, ◌%◌, ◌^◌, [], ◌∷◌, ◌++◌, sym, ap, ◌∙◌}
use Rattle.std.specs.List.{sum_by}
use Rattle.als_record.specs.Shown.{shown}
use Rattle.als_record.specs.declared.transaction_state.TransactionState.TheVariants.{Active}
use Rattle.als_record.specs.Tail.{reserve_of}
use Rattle.als_analysis.specs.Open.{owed, owed_after}
use Rattle.als_analysis.specs.Noted.{Table}
use Rattle.als_analysis.proofs.Counting.{wrapped-add}
use Rattle.als_analysis.proofs.ReserveAfter.{after-new, after-new_end}
use Rattle.als_analysis.proofs.trans_table.TransTable.reserve_after_new.Goals as goal

pub returns-then-is_end_record : goal.returns-then-is_end_record
returns-then-is_end_record c log h m =
    c.self.invariant.counted
    ∙ after-new_end log (shown c.args.logged.now) c.args.self.now c.self.inside.entries.items h (ap (λ (t : Table). t.rows) c.self.view_is) (ap (λ (t : Table). t.bytes) c.self.view_is) c.requires.kind m c.requires.absent (sym c.if-is_end_record.ensures)

pub returns : goal.returns
returns c log h m =
    let xs = c.self.inside.entries.items in
    let r = shown c.args.logged.now in
    let is : (sum_by owed xs + owed_after Active 0 r.body) % 2 ^ 64 ≡ reserve_of (log ++ r ∷ []) % 2 ^ 64 =
    after-new log r c.args.self.now xs h (ap (λ (t : Table). t.rows) c.self.view_is) (ap (λ (t : Table). t.bytes) c.self.view_is) c.requires.kind m c.requires.absent (sym c.if-is_end_record.ensures) in
    rw (c.owed_anew.ensures, c.self.invariant.counted) (wrapped-add (sum_by owed xs) (owed_after Active 0 r.body) ∙ is)
