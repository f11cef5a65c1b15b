use Rattle.std.proofs.Common.{sym, refl}
use Rattle.als_record.specs.Shown.{shown}
use Rattle.als_analysis.proofs.LogSteps.{step-checkpoint}
use Rattle.als_analysis.proofs.trans_table.TransTable.put.Goals as goal

pub returns-then-not-is_transaction_record : goal.returns-then-not-is_transaction_record
returns-then-not-is_transaction_record c log h m =
    step-checkpoint log (shown c.args.logged.now) c.args.self.now c.args.self.now h (sym c.if-not-is_transaction_record.ensures) refl refl refl
