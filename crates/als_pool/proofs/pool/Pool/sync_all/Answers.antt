use Rattle.std.proofs.Common.{length, ap, ◌∙◌}
use Rattle.std.proofs.lemmas.List.{length-map}
use Rattle.als_dirty.specs.Entries.{after_sync}
use Rattle.als_pool.specs.Pooled.{Pooled}
use Rattle.als_pool.proofs.Ordering.{pooled-refused_sync, pooled-syncs}
use Rattle.als_pool.proofs.pool.Pool.sync_all.Goals as goal

pub invariant_of-self : goal.invariant_of-self
invariant_of-self g c =
    let s = c.self.inside in
    let old : Pooled = record { frames = s.frames.paged; dirty = s.dirty; waits = s.queues.waits; unread = s.unread.items; next = s.numbers } in
    pooled-refused_sync old c.sync.new.self.paged c.in_err-sync.ensures.err c.self.invariant

pub invariant_of-self-2 : goal.invariant_of-self-2
invariant_of-self-2 g c =
    let s = c.self.inside in
    let old : Pooled = record { frames = s.frames.paged; dirty = s.dirty; waits = s.queues.waits; unread = s.unread.items; next = s.numbers } in
    pooled-syncs old c.sync.new.self.paged c.note_sync.new.self c.in_ok-sync.ensures.ok (ap length c.note_sync.ensures.value ∙ length-map s.dirty after_sync) c.self.invariant
