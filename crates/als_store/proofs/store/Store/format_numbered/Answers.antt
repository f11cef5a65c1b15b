use Rattle.std.proofs.Common.{◌+◌, false, [], refl, ap, ◌∙◌}
use Rattle.als_disk.specs.Slot.{only}
use Rattle.als_disk.specs.Store.{zeros}
use Rattle.als_frames.specs.Frames.{without_frames}
use Rattle.als_pool.specs.Pooled.{Prepared}
use Rattle.als_store.specs.Stored.{numbered_pool}
use Rattle.als_store.proofs.Formatted.{warm-laid}
use Rattle.als_store.proofs.StoredParts.{stored-new, view-new}
use Rattle.als_store.proofs.store.Store.format_numbered.Goals as goal

pub invariant_of-result : goal.invariant_of-result
invariant_of-result g c =
    let laid = c.in-Ok-lay_out in
    let parts = c.in-Ok in
    stored-new c.of-origin.result false c.args.pages parts.parts.pool.first (g.D.BlockDisk.block_count c.args.disks.log)
    (g.D.BlockDisk.failures c.args.disks.log) (g.D.BlockDisk.attempts c.args.disks.log + 2)
    (g.D.BlockDisk.block_count c.args.disks.control) (g.D.BlockDisk.failures c.args.disks.control)
    laid.laid.control.attempts
    laid.laid.log laid.laid.control laid.laid.pool.pool
    (without_frames c.args.pages c.args.frames (λ _. only zeros)
    (g.D.BlockDisk.block_count c.args.disks.pages) (g.D.BlockDisk.failures c.args.disks.pages)
    (g.D.BlockDisk.attempts c.args.disks.pages + c.args.pages + 1))
    parts.parts.validator c.new.result c.new.ensures
    c.requires.few_pages c.requires.some_blocks laid.ensures.log laid.ensures.control
    laid.ensures.pool refl laid.ensures.is_pool
    (c.pool_ends_below.ensures.of [] 16 laid.laid.pool.pool (laid.ensures.is_pool 16))
    parts.ensures.validator parts.ensures.judging

pub returns-in-Ok-lay_out-clause-ok : goal.returns-in-Ok-lay_out-clause-ok
returns-in-Ok-lay_out-clause-ok g c =
    let laid = c.in-Ok-lay_out in
    rw c.of-origin.ensures
    (view-new c.args.pages (g.D.BlockDisk.block_count c.args.disks.log)
    (g.D.BlockDisk.failures c.args.disks.log) (g.D.BlockDisk.attempts c.args.disks.log + 2)
    (g.D.BlockDisk.block_count c.args.disks.control) (g.D.BlockDisk.failures c.args.disks.control)
    laid.laid.control.attempts laid.laid.log laid.laid.control laid.laid.pool.pool
    (numbered_pool c.args.first c.args.pages c.args.frames (g.D.BlockDisk.block_count c.args.disks.pages)
    (g.D.BlockDisk.failures c.args.disks.pages) (g.D.BlockDisk.attempts c.args.disks.pages
    + c.args.pages + 1))
    laid.ensures.log laid.ensures.control
    (laid.ensures.pool ∙ ap (λ (x : Prepared). numbered_pool x.first c.args.pages c.args.frames
    (g.D.BlockDisk.block_count c.args.disks.pages) (g.D.BlockDisk.failures c.args.disks.pages)
    (g.D.BlockDisk.attempts c.args.disks.pages + c.args.pages + 1)) c.in-Ok.ensures.pool))

pub returns-in-Ok-lay_out-clause-warm : goal.returns-in-Ok-lay_out-clause-warm
returns-in-Ok-lay_out-clause-warm g c =
    let laid = c.in-Ok-lay_out in
    rw c.of-origin.ensures
    (warm-laid c.args.pages c.in-Ok.parts.pool.first (g.D.BlockDisk.block_count c.args.disks.log)
    (g.D.BlockDisk.failures c.args.disks.log) (g.D.BlockDisk.attempts c.args.disks.log + 2)
    (g.D.BlockDisk.block_count c.args.disks.control) (g.D.BlockDisk.failures c.args.disks.control)
    laid.laid.control.attempts
    laid.laid.log laid.laid.control laid.laid.pool.pool
    (without_frames c.args.pages c.args.frames (λ _. only zeros)
    (g.D.BlockDisk.block_count c.args.disks.pages) (g.D.BlockDisk.failures c.args.disks.pages)
    (g.D.BlockDisk.attempts c.args.disks.pages + c.args.pages + 1))
    laid.ensures.log laid.ensures.control laid.ensures.pool laid.ensures.is_pool)
