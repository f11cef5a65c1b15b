use Rattle.std.proofs.Common.{◌≡◌, ◌<◌, [], length, sym, ap, subst, ◌∙◌}
use Rattle.std.specs.Prelude.{IsSome}
use Rattle.als_page.specs.Page.{id_of, state_of}
use Rattle.als_frames.specs.Frames.{frame_of}
use Rattle.als_lease.specs.Lease.{Leased}
use Rattle.als_pool.specs.Queues.{pending_of}
use Rattle.als_pool.specs.Pooled.{Held, Pooled}
use Rattle.als_pool.specs.Outcomes.{LendsFirst}
use Rattle.als_pool.proofs.LeaseSteps.{lends_first, lends-marks, lends-lent}
use Rattle.als_pool.proofs.Ordering.{base_of, base_next, pooled-marks, lent-with}
use Rattle.als_pool.proofs.pool.Pool.lend_first.Goals as goal

pub fill-lease-requires-clause-next : goal.fill-lease-requires-clause-next
fill-lease-requires-clause-next g c =
    let s = c.self.inside in
    let old : Pooled = record { frames = s.frames.paged; dirty = s.dirty; waits = s.queues.waits; unread = s.unread.items; next = s.numbers } in
    let base = c.in-Some.base.now in
    let bases = base_of (frame_of s.frames.paged c.args.page) (state_of base) c.in-Some.ensures.content in
    let inside : c.args.page < length s.queues.waits = subst (λ (v : Held). c.args.page < length v.pool.waits) (sym c.self.view_is) c.requires.in_range in
    let resident = subst (λ (v : Held). IsSome (frame_of v.pool.frames c.args.page)) (sym c.self.view_is) c.requires.resident in
    base_next old c.args.page (id_of base) (state_of base) c.waiting.result.now inside resident c.self.invariant bases c.in-Some.ensures.number c.waiting.ensures

pub invariant_of-self : goal.invariant_of-self
invariant_of-self g c =
    let s = c.self.inside in
    let old : Pooled = record { frames = s.frames.paged; dirty = s.dirty; waits = s.queues.waits; unread = s.unread.items; next = s.numbers } in
    let base = c.in-Some.base.now in
    let bases = base_of (frame_of s.frames.paged c.args.page) (state_of base) c.in-Some.ensures.content in
    let some = subst (λ (v : Held). pending_of v.pool.waits c.args.page ≡ [] → ⊥) (sym c.self.view_is) c.requires.some in
    let first : LendsFirst old (record old { frames = c.lend.new.self.paged; next = c.draw.new.self }) c.args.page c.fill-lease.result
    = lends_first old c.lend.new.self.paged c.draw.new.self c.args.page c.in-Some-Some.number (id_of base) (state_of base) c.waiting.result.now c.batch-count.result.now c.fill-lease.result
    (sym c.draw.ensures.value ∙ c.in-Some-Some.is-1) c.draw.ensures.next some c.fill-lease.ensures c.in-Some.ensures.number bases c.waiting.ensures c.batch-count.ensures.value c.lend.ensures.lends in
    let new : Pooled = record old { frames = c.lend.new.self.paged; next = c.draw.new.self } in
    let lease = c.fill-lease.result in
    pooled-marks old new c.args.page (lends-marks old new c.args.page lease first)
    (λ l is. lent-with old c.args.page lease.number lease (ap (λ (x : Leased). x.batch) first.lease_is) some l (sym (lends-lent old new c.args.page lease first) ∙ is)) c.self.invariant

pub returns-clause-lends : goal.returns-clause-lends
returns-clause-lends g c =
    let s = c.self.inside in
    let old : Pooled = record { frames = s.frames.paged; dirty = s.dirty; waits = s.queues.waits; unread = s.unread.items; next = s.numbers } in
    let base = c.in-Some.base.now in
    let bases = base_of (frame_of s.frames.paged c.args.page) (state_of base) c.in-Some.ensures.content in
    let some = subst (λ (v : Held). pending_of v.pool.waits c.args.page ≡ [] → ⊥) (sym c.self.view_is) c.requires.some in
    let first : LendsFirst old (record old { frames = c.lend.new.self.paged; next = c.draw.new.self }) c.args.page c.fill-lease.result
    = lends_first old c.lend.new.self.paged c.draw.new.self c.args.page c.in-Some-Some.number (id_of base) (state_of base) c.waiting.result.now c.batch-count.result.now c.fill-lease.result
    (sym c.draw.ensures.value ∙ c.in-Some-Some.is-1) c.draw.ensures.next some c.fill-lease.ensures c.in-Some.ensures.number bases c.waiting.ensures c.batch-count.ensures.value c.lend.ensures.lends in
    rw (← c.self.view_is) first
