use Rattle.std.proofs.Common.{length, ap, ◌∙◌, length-set}
use Rattle.als_pool.specs.Pooled.{Pooled}
use Rattle.als_pool.proofs.Ordering.{pooled-refused_write, pooled-writes}
use Rattle.als_pool.proofs.pool.Pool.store_page.Goals as goal

pub invariant_of-self : goal.invariant_of-self
invariant_of-self g c =
    let s = c.self.inside in
    let old : Pooled = record { frames = s.frames.paged; dirty = s.dirty; waits = s.queues.waits; unread = s.unread.items; next = s.numbers } in
    pooled-refused_write c.in_err-write.field-0.0 old c.write.new.self.paged c.args.page c.in_err-write.ensures.err c.self.invariant

pub invariant_of-self-2 : goal.invariant_of-self-2
invariant_of-self-2 g c =
    let s = c.self.inside in
    let old : Pooled = record { frames = s.frames.paged; dirty = s.dirty; waits = s.queues.waits; unread = s.unread.items; next = s.numbers } in
    pooled-writes old c.write.new.self.paged c.note_write.new.self c.args.page c.in_ok-write.ensures.ok (ap length c.note_write.ensures.value ∙ length-set s.dirty c.args.page _) c.self.invariant
