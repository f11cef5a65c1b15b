use Rattle.std.proofs.Common.{Some, ◌≡◌, [], replicate, refl, sym, ap, subst, ◌∙◌}
use Rattle.als_frames.specs.Frames.{Paged, without_frames}
use Rattle.als_pool.specs.Queues.{Waiting}
use Rattle.als_pool.specs.Pooled.{Pooled}
use Rattle.als_pool.specs.Restart.{IsOpened, Started}
use Rattle.als_pool.proofs.Restarting.{is_opened, opened_pooled, opened_reads, opened_rows}
use Rattle.als_pool.proofs.Opened.{opened_holds}
use Rattle.als_pool.proofs.Bounding.{ends-opened}
use Rattle.als_pool.proofs.pool.Pool.open.Goals as goal

pub returns-clause-ok : goal.returns-clause-ok
returns-clause-ok g c =
    let stored : Paged
    = without_frames c.args.pages c.args.frames (g.D.BlockDisk.slot c.args.disk) (g.D.BlockDisk.block_count c.args.disk) (g.D.BlockDisk.failures c.args.disk) (g.D.BlockDisk.attempts c.args.disk) in
    let s : Started = record { dirty = c.starts.inside.dirty; unread = c.starts.inside.unread.items } in
    let waits = ap (λ (w : Waiting). w.waits) c.in-Ok.ensures.queues in
    let made : Pooled = record { frames = c.open-frames.result.paged; dirty = s.dirty; waits = c.in-Ok.queues.waits; unread = s.unread; next = c.from.result } in
    let same : made ≡ record { frames = stored; dirty = s.dirty; waits = replicate c.args.pages []; unread = s.unread; next = Some 1 }
    = λ j. record { frames = c.open-frames.ensures.shows j; dirty = s.dirty; waits = waits j; unread = s.unread; next = c.from.ensures j } in
    subst (λ (v : Pooled). IsOpened stored c.args.position c.args.rows.now v) (sym same)
    (is_opened stored c.args.position c.args.rows.now s (c.starts.view_is ∙ c.in-Ok.ensures.starts))

pub invariant_of-result : goal.invariant_of-result
invariant_of-result g c =
    let stored : Paged
    = without_frames c.args.pages c.args.frames (g.D.BlockDisk.slot c.args.disk) (g.D.BlockDisk.block_count c.args.disk) (g.D.BlockDisk.failures c.args.disk) (g.D.BlockDisk.attempts c.args.disk) in
    let made : Pooled = record { frames = c.open-frames.result.paged; dirty = c.starts.inside.dirty; waits = c.in-Ok.queues.waits; unread = c.starts.inside.unread.items; next = c.from.result } in
    let is : IsOpened stored c.args.position c.args.rows.now made = returns-clause-ok g c in
    opened_pooled stored c.args.position c.args.rows.now made is refl

pub returns-clause-reads : goal.returns-clause-reads
returns-clause-reads g c =
    let stored : Paged
    = without_frames c.args.pages c.args.frames (g.D.BlockDisk.slot c.args.disk) (g.D.BlockDisk.block_count c.args.disk) (g.D.BlockDisk.failures c.args.disk) (g.D.BlockDisk.attempts c.args.disk) in
    let made : Pooled = record { frames = c.open-frames.result.paged; dirty = c.starts.inside.dirty; waits = c.in-Ok.queues.waits; unread = c.starts.inside.unread.items; next = c.from.result } in
    let is : IsOpened stored c.args.position c.args.rows.now made = returns-clause-ok g c in
    opened_reads stored c.args.position c.args.rows.now made is

pub returns-clause-given : goal.returns-clause-given
returns-clause-given g c =
    let stored : Paged
    = without_frames c.args.pages c.args.frames (g.D.BlockDisk.slot c.args.disk) (g.D.BlockDisk.block_count c.args.disk) (g.D.BlockDisk.failures c.args.disk) (g.D.BlockDisk.attempts c.args.disk) in
    let made : Pooled = record { frames = c.open-frames.result.paged; dirty = c.starts.inside.dirty; waits = c.in-Ok.queues.waits; unread = c.starts.inside.unread.items; next = c.from.result } in
    let is : IsOpened stored c.args.position c.args.rows.now made = returns-clause-ok g c in
    opened_rows stored c.args.position c.args.rows.now made is refl

pub returns-clause-holds : goal.returns-clause-holds
returns-clause-holds g c log below h =
    let stored : Paged
    = without_frames c.args.pages c.args.frames (g.D.BlockDisk.slot c.args.disk) (g.D.BlockDisk.block_count c.args.disk) (g.D.BlockDisk.failures c.args.disk) (g.D.BlockDisk.attempts c.args.disk) in
    let made : Pooled = record { frames = c.open-frames.result.paged; dirty = c.starts.inside.dirty; waits = c.in-Ok.queues.waits; unread = c.starts.inside.unread.items; next = c.from.result } in
    let is : IsOpened stored c.args.position c.args.rows.now made = returns-clause-ok g c in
    opened_holds log below c.args.pages c.args.frames (g.D.BlockDisk.block_count c.args.disk) (g.D.BlockDisk.failures c.args.disk) (g.D.BlockDisk.attempts c.args.disk) c.args.position c.args.rows.now
    (g.D.BlockDisk.slot c.args.disk) h made is

pub returns-clause-ends : goal.returns-clause-ends
returns-clause-ends g c end lt =
    let stored : Paged
    = without_frames c.args.pages c.args.frames (g.D.BlockDisk.slot c.args.disk) (g.D.BlockDisk.block_count c.args.disk) (g.D.BlockDisk.failures c.args.disk) (g.D.BlockDisk.attempts c.args.disk) in
    let made : Pooled = record { frames = c.open-frames.result.paged; dirty = c.starts.inside.dirty; waits = c.in-Ok.queues.waits; unread = c.starts.inside.unread.items; next = c.from.result } in
    let is : IsOpened stored c.args.position c.args.rows.now made = returns-clause-ok g c in
    ends-opened end stored c.args.position c.args.rows.now made is refl lt
