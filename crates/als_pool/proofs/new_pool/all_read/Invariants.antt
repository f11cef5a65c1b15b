use Rattle.std.proofs.Common.{◌≡◌, replicate, None}
use Rattle.als_pool.proofs.new_pool.all_read.Given as goal

abbrev pub invariant-loop-page : goal.invariant-loop-page
invariant-loop-page l = l.unread.items ≡ replicate l._page None
