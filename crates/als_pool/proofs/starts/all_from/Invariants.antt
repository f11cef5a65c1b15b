use Rattle.std.proofs.Common.{◌≡◌, replicate, Some}
use Rattle.als_pool.proofs.starts.all_from.Given as goal

abbrev pub invariant-loop-page : goal.invariant-loop-page
invariant-loop-page l = l.unread.items ≡ replicate l._page (Some l.from)
