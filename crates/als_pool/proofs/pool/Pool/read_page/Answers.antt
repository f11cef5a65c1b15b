use Rattle.als_pool.specs.Pooled.{Pooled}
use Rattle.als_pool.proofs.Ordering.{pooled-reading}
use Rattle.als_pool.proofs.pool.Pool.read_page.Goals as goal

pub invariant_of-self : goal.invariant_of-self
invariant_of-self g c =
    let s = c.self.inside in
    let old : Pooled = record { frames = s.frames.paged; dirty = s.dirty; waits = s.queues.waits; unread = s.unread.items; next = s.numbers } in
    pooled-reading c.in_err-found.field-0.0 old c.stored.new.self.paged c.args.page c.in_err-found.ensures.err c.self.invariant
