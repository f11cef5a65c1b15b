use Rattle.std.proofs.Common.{sym, refl}
use Rattle.als_record.specs.Shown.{shown}
use Rattle.als_validator.proofs.ListSteps.{lists-checkpoint}
use Rattle.als_validator.proofs.survivors.Survivors.note.Goals as goal

pub returns-then-not-is_transaction_record : goal.returns-then-not-is_transaction_record
returns-then-not-is_transaction_record c log h m place =
    lists-checkpoint log (shown c.args.logged.now) c.args.self.now.lists c.args.self.now.lists h (sym c.if-not-is_transaction_record.ensures) refl
