use Rattle.std.proofs.Common.{◌≡◌, replicate, false}
use Rattle.als_dirty.specs.Entries.{untouched_page}
use Rattle.als_dirty.proofs.dirty_table.DirtyTable.new.Given as goal

abbrev pub invariant-loop-page : goal.invariant-loop-page
invariant-loop-page l = (l.entries.items ≡ replicate l._page untouched_page) × (l.flags.items ≡ replicate l._page false)
