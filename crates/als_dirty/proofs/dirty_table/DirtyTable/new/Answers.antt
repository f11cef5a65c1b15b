use Rattle.als_dirty.proofs.TableSteps.{empty_kept}
use Rattle.als_dirty.proofs.dirty_table.DirtyTable.new.Goals as goal

pub returns-clause-empty_log : goal.returns-clause-empty_log
returns-clause-empty_log c = empty_kept c.loop-page._page c.loop-page.entries.items c.loop-page.invariant.0
