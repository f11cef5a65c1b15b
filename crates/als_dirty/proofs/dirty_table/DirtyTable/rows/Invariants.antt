use Rattle.als_dirty.proofs.RowLists.{IsFront}
use Rattle.als_dirty.proofs.dirty_table.DirtyTable.rows.Given as goal

abbrev pub invariant-loop-page : goal.invariant-loop-page
invariant-loop-page l = IsFront l.self-inside.pages.items l.page l.rows
