use Rattle.std.proofs.Common.{length, sym, ap, subst, ◌∙◌, length-set}
use Rattle.als_pool.specs.Pooled.{Held, Pooled}
use Rattle.als_pool.specs.Outcomes.{CanRoute}
use Rattle.als_pool.proofs.Ordering.{pooled-routes}
use Rattle.als_pool.proofs.pool.Pool.add.Goals as goal

pub invariant_of-self : goal.invariant_of-self
invariant_of-self g c =
    let s = c.self.inside in
    let old : Pooled = record { frames = s.frames.paged; dirty = s.dirty; waits = s.queues.waits; unread = s.unread.items; next = s.numbers } in
    let can : CanRoute old c.args.change = subst (λ (v : Held). CanRoute v.pool c.args.change) (sym c.self.view_is) c.requires.can in
    pooled-routes old c.args.change c.note_change.new.self c.push.new.self.waits can (ap length c.note_change.ensures.value ∙ length-set s.dirty c.args.change.key.page _) c.push.ensures.waits c.self.invariant
