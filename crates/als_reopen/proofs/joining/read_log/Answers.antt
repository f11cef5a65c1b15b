use Rattle.std.proofs.Common.{ℕ, refl, sym, ap, subst, ◌∙◌}
use Rattle.als_scan.specs.Scanned.{Scanned}
use Rattle.als_pool.specs.Pooled.{Held}
use Rattle.als_pool.specs.Restart.{HoldsImagesOf}
use Rattle.als_scan.specs.Texts.{text_of}
use Rattle.als_reopen.specs.Reading.{IsLogOn, IsFrontOf}
use Rattle.als_reopen.proofs.Devices.{pool_left, scan_left}
use Rattle.als_reopen.proofs.joining.read_log.Goals as goal

pub returns-in-Err-begin-clause-left_pages : goal.returns-in-Err-begin-clause-left_pages
returns-in-Err-begin-clause-left_pages g c =
    let disk = c.args.page_disk in
    let left = c.in-Err-begin.unread.pages in
    pool_left c.args.pages c.args.frames (g.D.BlockDisk.slot disk) (g.D.BlockDisk.slot left) (g.D.BlockDisk.block_count disk) (g.D.BlockDisk.failures disk) (g.D.BlockDisk.attempts disk)
    (g.D.BlockDisk.block_count left) (g.D.BlockDisk.failures left) (g.D.BlockDisk.attempts left) c.in-Ok.pool.pool.frames c.in-Ok.ensures.frames c.in-Err-begin.ensures.left_pages

pub returns-in-Ok-finish-clause-images : goal.returns-in-Ok-finish-clause-images
returns-in-Ok-finish-clause-images g c whole below h =
    c.in-Ok-finish.ensures.images whole below (subst (λ (p : Held). HoldsImagesOf whole below p.pool) (sym c.in-Ok-begin.ensures.pool) (c.in-Ok.ensures.images whole below h))

pub returns-in-Err-finish-clause-bare : goal.returns-in-Err-finish-clause-bare
returns-in-Err-finish-clause-bare g c whole h =
    let slots = g.D.BlockDisk.slot c.args.log in
    let mark = c.args.state.now.mark.0 in
    let checkpoint = c.args.checkpoint.now in
    let blocks = c.blocks-blocks.result in
    let counted = subst (λ (n : ℕ). IsLogOn c.args.pages n mark (text_of slots mark) checkpoint whole) (sym c.blocks-blocks.ensures) h in
    let scan = sym c.in-Ok-begin.ensures.scan in
    c.in-Err-finish.ensures.bare whole (subst (λ (s : Scanned). IsLogOn s.pages blocks s.mark s.text checkpoint whole) scan counted)
    (subst (λ (s : Scanned). IsFrontOf s.log whole) scan (record { rest = whole; parts = refl }))

pub returns-in-Err-finish-clause-left_log : goal.returns-in-Err-finish-clause-left_log
returns-in-Err-finish-clause-left_log g c =
    let disk = c.args.log in
    let left = c.in-Err-finish.unread.log in
    scan_left c.args.pages c.args.state.now.mark.0 (g.D.BlockDisk.block_count disk) (g.D.BlockDisk.failures disk) (g.D.BlockDisk.attempts disk) (g.D.BlockDisk.block_count left) (g.D.BlockDisk.attempts left)
    (g.D.BlockDisk.slot disk) (g.D.BlockDisk.slot left) c.in-Ok-begin.reading.scan c.in-Ok-begin.ensures.scan c.in-Err-finish.ensures.left_log

pub returns-in-Err-finish-clause-left_pages : goal.returns-in-Err-finish-clause-left_pages
returns-in-Err-finish-clause-left_pages g c =
    let disk = c.args.page_disk in
    let left = c.in-Err-finish.unread.pages in
    let reading = c.in-Ok-begin.reading in
    pool_left c.args.pages c.args.frames (g.D.BlockDisk.slot disk) (g.D.BlockDisk.slot left) (g.D.BlockDisk.block_count disk) (g.D.BlockDisk.failures disk) (g.D.BlockDisk.attempts disk)
    (g.D.BlockDisk.block_count left) (g.D.BlockDisk.failures left) (g.D.BlockDisk.attempts left) reading.taken.pool.pool.frames (ap (λ (p : Held). p.pool.frames) c.in-Ok-begin.ensures.pool ∙ c.in-Ok.ensures.frames)
    c.in-Err-finish.ensures.left_pages
