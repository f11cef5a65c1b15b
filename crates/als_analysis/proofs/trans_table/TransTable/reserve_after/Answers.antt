use Rattle.std.proofs.Common.{[], ◌∷◌, ◌++◌, sym, ap, ◌∙◌}
use Rattle.als_record.specs.Shown.{shown}
use Rattle.als_record.proofs.TailBound.{reserve_of-exact}
use Rattle.als_analysis.specs.Noted.{Table}
use Rattle.als_analysis.proofs.ReserveAfter.{after-checkpoint}
use Rattle.als_analysis.proofs.trans_table.TransTable.reserve_after.Goals as goal

pub returns-then-not-is_transaction_record : goal.returns-then-not-is_transaction_record
returns-then-not-is_transaction_record c log h m short =
    c.self.invariant.counted
    ∙ after-checkpoint log (shown c.args.logged.now) c.args.self.now c.self.inside.entries.items h (ap (λ (t : Table). t.rows) c.self.view_is) (ap (λ (t : Table). t.bytes) c.self.view_is) (sym c.if-not-is_transaction_record.ensures)
    ∙ reserve_of-exact (log ++ (shown c.args.logged.now) ∷ []) short

pub returns-in-Some : goal.returns-in-Some
returns-in-Some c log h m short = c.reserve_after_known.ensures log h m ∙ reserve_of-exact (log ++ (shown c.args.logged.now) ∷ []) short

pub returns-in-None : goal.returns-in-None
returns-in-None c log h m short = c.reserve_after_new.ensures log h m ∙ reserve_of-exact (log ++ (shown c.args.logged.now) ∷ []) short
