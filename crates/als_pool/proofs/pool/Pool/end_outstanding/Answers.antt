use Rattle.std.proofs.Common.{sym, subst}
use Rattle.als_page.specs.Page.{state_of}
use Rattle.als_pool.specs.Pooled.{Held, Pooled}
use Rattle.als_pool.specs.Outcomes.{IsOutstanding, Gives}
use Rattle.als_pool.proofs.LeaseSteps.{can_take, gives_back, gives-redoes}
use Rattle.als_pool.proofs.Ordering.{pooled-redoes}
use Rattle.als_pool.proofs.pool.Pool.end_outstanding.Goals as goal

pub take_back-requires-clause-can : goal.take_back-requires-clause-can
take_back-requires-clause-can g c =
    let s = c.self.inside in
    let lease = c.args.lease.now in
    let old : Pooled = record { frames = s.frames.paged; dirty = s.dirty; waits = s.queues.waits; unread = s.unread.items; next = s.numbers } in
    let out = subst (λ (v : Held). IsOutstanding v.pool lease) (sym c.self.view_is) c.requires in
    can_take old c.page_id-page.result (state_of c.working.result.now) lease c.done-done.ensures.facts out c.page_id-page.ensures c.working.ensures.state

pub invariant_of-self : goal.invariant_of-self
invariant_of-self g c =
    let s = c.self.inside in
    let lease = c.args.lease.now in
    let old : Pooled = record { frames = s.frames.paged; dirty = s.dirty; waits = s.queues.waits; unread = s.unread.items; next = s.numbers } in
    let out = subst (λ (v : Held). IsOutstanding v.pool lease) (sym c.self.view_is) c.requires in
    let new : Pooled = record old { frames = c.take_back.new.self.paged; waits = c.drop_front.new.self.waits } in
    let gives : Gives old new lease
    = gives_back old c.take_back.new.self.paged c.drop_front.new.self.waits c.page_id-page.result c.done-done.result (state_of c.working.result.now) lease c.done-done.ensures.facts out
    c.page_id-page.ensures c.done-done.ensures.value c.working.ensures.state c.take_back.ensures.takes_back c.drop_front.ensures.waits in
    pooled-redoes old new lease.page lease.done (gives-redoes old new lease gives) c.self.invariant

pub returns-clause-gives : goal.returns-clause-gives
returns-clause-gives g c =
    let s = c.self.inside in
    let lease = c.args.lease.now in
    let old : Pooled = record { frames = s.frames.paged; dirty = s.dirty; waits = s.queues.waits; unread = s.unread.items; next = s.numbers } in
    let out = subst (λ (v : Held). IsOutstanding v.pool lease) (sym c.self.view_is) c.requires in
    rw (← c.self.view_is)
    (gives_back old c.take_back.new.self.paged c.drop_front.new.self.waits c.page_id-page.result c.done-done.result (state_of c.working.result.now) lease c.done-done.ensures.facts out
    c.page_id-page.ensures c.done-done.ensures.value c.working.ensures.state c.take_back.ensures.takes_back c.drop_front.ensures.waits)
