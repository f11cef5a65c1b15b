use Rattle.std.proofs.Common.{◌≡◌, [], sym, ap, subst}
use Rattle.als_frames.specs.Frames.{Paged}
use Rattle.als_pool.specs.Queues.{Waiting}
use Rattle.als_pool.specs.Pooled.{Pooled, new_pool}
use Rattle.als_pool.specs.Images.{IsPoolOf}
use Rattle.als_pool.proofs.PoolSteps.{pool_of_empty}
use Rattle.als_pool.specs.Bounds.{EndsBelow}
use Rattle.als_pool.proofs.Bounding.{ends-new}
use Rattle.als_pool.proofs.pool.Pool.lay_out.Goals as goal

pub returns-in-Ok-clause-keeps : goal.returns-in-Ok-clause-keeps
returns-in-Ok-clause-keeps g c below =
    let frames = c.in-Ok.frames.paged in
    let n = c.new.inside in
    let waits = ap (λ (w : Waiting). w.waits) c.new.invariant.2 in
    let made : Pooled = record { frames = frames; dirty = n.dirty; waits = n.queues.waits; unread = n.unread.items; next = c.from.result } in
    let is : made ≡ new_pool frames n.pages n.first = λ j. record { frames = frames; dirty = c.new.invariant.1 j; waits = waits j; unread = c.new.invariant.3 j; next = c.from.ensures j } in
    subst (λ (v : Pooled). IsPoolOf [] below v) (sym is)
    (pool_of_empty frames n.pages n.first below (ap (λ (v : Paged). v.pages) c.in-Ok.ensures.ok) (ap (λ (v : Paged). v.frames) c.in-Ok.ensures.ok) (c.in-Ok.ensures.keeps below))

pub returns-in-Ok-clause-ends : goal.returns-in-Ok-clause-ends
returns-in-Ok-clause-ends g c end lt =
    let frames = c.in-Ok.frames.paged in
    let n = c.new.inside in
    let waits = ap (λ (w : Waiting). w.waits) c.new.invariant.2 in
    let made : Pooled = record { frames = frames; dirty = n.dirty; waits = n.queues.waits; unread = n.unread.items; next = c.from.result } in
    let is : made ≡ new_pool frames n.pages n.first = λ j. record { frames = frames; dirty = c.new.invariant.1 j; waits = waits j; unread = c.new.invariant.3 j; next = c.from.ensures j } in
    subst (λ (v : Pooled). EndsBelow end v) (sym is)
    (ends-new end frames n.pages n.first (ap (λ (v : Paged). v.pages) c.in-Ok.ensures.ok) (ap (λ (v : Paged). v.frames) c.in-Ok.ensures.ok) lt)
