use Rattle.std.proofs.Common.{◌≡◌, ℕ, ◌≤◌, ◌<◌, None}
use Rattle.als_dirty.specs.Rows.{rec_lsn_of}
use Rattle.als_dirty.proofs.dirty_table.DirtyTable.next_row.Given as goal

abbrev pub invariant-loop-page : goal.invariant-loop-page
invariant-loop-page l = (page : ℕ) → l.from ≤ page → page < l.page → rec_lsn_of l.self-inside.pages.items page ≡ None
