use Rattle.std.proofs.Common.{sym}
use Rattle.als_record.specs.Shown.{shown}
use Rattle.als_record.specs.Table.{fresh_row}
use Rattle.als_analysis.proofs.LogSteps.{step-more, step-end}
use Rattle.als_analysis.proofs.trans_table.TransTable.note_known.Goals as goal

pub returns-then-is_end_record : goal.returns-then-is_end_record
returns-then-is_end_record c log h m =
    step-end log (shown c.args.logged.now) c.args.self.now c.close.new.self h c.requires.kind m c.args.at (fresh_row 0) c.requires.within (c.requires.here (fresh_row 0)) (sym c.if-is_end_record.ensures) c.close.ensures.rows c.close.ensures.left c.close.ensures.bytes

pub returns : goal.returns
returns c log h m =
    step-more log (shown c.args.logged.now) c.args.self.now c.extend.new.self h c.requires.kind m c.args.at (fresh_row 0) c.requires.within (c.requires.here (fresh_row 0)) (sym c.if-is_end_record.ensures) (c.extend.ensures.rows (fresh_row 0)) (c.extend.ensures.left 0) (c.extend.ensures.bytes 0)
