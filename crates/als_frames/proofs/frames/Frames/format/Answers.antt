use Rattle.std.proofs.Common.{[], true, arith, ◌∙◌}
use Rattle.als_disk.specs.Slot.{only}
use Rattle.als_disk.specs.Store.{zeros}
use Rattle.als_frames.specs.Frames.{Paged, without_frames}
use Rattle.als_frames.proofs.SlotsLaws.{slots_from-same}
use Rattle.als_frames.proofs.Keeping.{empty_log, empty_stored}
use Rattle.als_frames.proofs.frames.Frames.format.Goals as goal

pub returns-in-Ok-clause-ok : goal.returns-in-Ok-clause-ok
returns-in-Ok-clause-ok g c =
    let slots = slots_from-same 0 c.args.pages (λ _. only zeros) (g.D.BlockDisk.slot c.lay_out.new.disk) (λ k from below. c.in-Ok.ensures.ok k (omega (arith, below))) in
    let disk = c.lay_out.new.disk in
    let shown : Paged = without_frames c.args.pages c.args.most (g.D.BlockDisk.slot disk) (g.D.BlockDisk.block_count disk) (g.D.BlockDisk.failures disk) (g.D.BlockDisk.attempts disk) in
    ◌∙◌ {b = shown} c.open.ensures.shows (λ j. record shown {
      pages = c.args.pages;
      most = c.args.most;
      frames = [];
      slots = slots j;
      blocks = c.in-Ok.ensures.count j;
      failures = c.in-Ok.ensures.failures j;
      attempts = c.in-Ok.ensures.attempts j;
      sure = true;
    })

pub returns-in-Ok-clause-keeps : goal.returns-in-Ok-clause-keeps
returns-in-Ok-clause-keeps g c below = c.open.ensures.keeps _ (λ _. 0) below (empty_log c.args.pages) (λ page lt. empty_stored page below _ (c.in-Ok.ensures.ok page lt))
