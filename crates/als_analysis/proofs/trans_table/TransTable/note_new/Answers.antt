use Rattle.std.proofs.Common.{sym, refl, ◌∙◌}
use Rattle.std.proofs.lemmas.Bool.{false≢true}
use Rattle.als_record.specs.Shown.{shown}
use Rattle.als_analysis.proofs.LogSteps.{step-new, step-new_end, new-few, new-above}
use Rattle.als_analysis.proofs.trans_table.TransTable.note_new.Goals as goal

pub returns-then-is_end_record : goal.returns-then-is_end_record
returns-then-is_end_record c log h m =
    step-new_end log (shown c.args.logged.now) c.args.self.now c.args.self.now h c.requires.kind m c.requires.absent (sym c.if-is_end_record.ensures) refl refl refl

pub returns-then-not-can_begin : goal.returns-then-not-can_begin
returns-then-not-can_begin c log h m =
    let few = new-few log (shown c.args.logged.now) c.args.self.now c.args.self.now h c.requires.kind m c.requires.absent (sym c.if-is_end_record.ensures) in
    let above = new-above log (shown c.args.logged.now) c.args.self.now c.args.self.now h c.requires.kind m c.requires.absent in
    let can = c.can_begin.ensures.1 (few, above) in
    absurd (false≢true (sym c.if-not-can_begin.true ∙ can))

pub returns : goal.returns
returns c log h m =
    step-new log (shown c.args.logged.now) c.args.self.now c.begin.new.self h c.requires.kind m c.requires.absent (sym c.if-is_end_record.ensures) c.begin.ensures.rows c.begin.ensures.left c.begin.ensures.bytes
