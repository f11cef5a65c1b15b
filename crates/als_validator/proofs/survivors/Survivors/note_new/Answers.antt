use Rattle.std.proofs.Common.{sym, refl}
use Rattle.als_record.specs.Shown.{shown}
use Rattle.als_validator.proofs.ListSteps.{lists-new, lists-new_end}
use Rattle.als_validator.proofs.survivors.Survivors.note_new.Goals as goal

pub returns-then-is_end_record : goal.returns-then-is_end_record
returns-then-is_end_record c log h m closed =
    lists-new_end log (shown c.args.logged.now) c.args.self.now.lists c.args.self.now.lists h c.requires.kind m closed (sym c.if-is_end_record.ensures) refl

pub returns : goal.returns
returns c log h m closed =
    lists-new log (shown c.args.logged.now) c.args.self.now.lists c.begin.new.self.lists h c.requires.kind m closed (sym c.if-is_end_record.ensures) c.begin.ensures
