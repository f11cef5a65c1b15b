use Rattle.std.proofs.Common.{◌≡◌}
use Rattle.als_dirty.proofs.ListSteps.{IsSyncedUpTo}
use Rattle.als_dirty.proofs.dirty_table.DirtyTable.note_sync.Given as goal

abbrev pub invariant-loop-i : goal.invariant-loop-i
invariant-loop-i l =
    (l.self-inside.listed ≡ l.initial.self-inside.listed)
    × IsSyncedUpTo l.initial.self-inside.pages.items l.self-inside.pages.items l.initial.self-inside.is_listed.items l.self-inside.is_listed.items l.initial.self-inside.listed.items l.i
