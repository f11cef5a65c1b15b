use Rattle.als_pool.specs.Pooled.{Pooled}
use Rattle.als_pool.proofs.LeaseSteps.{recall_marks, recall-lent}
use Rattle.als_pool.proofs.Ordering.{pooled-marks}
use Rattle.als_pool.proofs.pool.Pool.end_lease.Goals as goal

pub invariant_of-self : goal.invariant_of-self
invariant_of-self g c =
    let s = c.self.inside in
    let old : Pooled = record { frames = s.frames.paged; dirty = s.dirty; waits = s.queues.waits; unread = s.unread.items; next = s.numbers } in
    let new : Pooled = record old { frames = c.recall.new.self.paged } in
    pooled-marks old new c.args.page (recall_marks old c.recall.new.self.paged c.args.page c.recall.ensures.recalls) (λ l is. absurd (recall-lent old c.recall.new.self.paged c.args.page c.recall.ensures.recalls l is)) c.self.invariant
