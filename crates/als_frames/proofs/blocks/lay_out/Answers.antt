use Rattle.std.proofs.Common.{◌≡◌, ◌<◌, ◌+◌, arith, ◌∙◌}
use Rattle.als_frames.proofs.BlockLaws.{zeros-more, zeros-synced}
use Rattle.als_frames.proofs.blocks.lay_out.Goals as goal

pub loop-page-preserved : goal.loop-page-preserved
loop-page-preserved g c =
    let (count, failed, made, done) = c.loop-page.invariant in
    let more : g.D.BlockDisk.attempts c.write.new.self ≡ g.D.BlockDisk.attempts c.args.disk.now + (c.loop-page.page + 1)
    = omega (arith, c.in_ok-write.ensures.attempts, made) in (
      c.in_ok-write.ensures.count ∙ count,
      c.in_ok-write.ensures.failures ∙ failed,
      more,
      zeros-more (g.D.BlockDisk.slot c.loop-page.disk) (g.D.BlockDisk.slot c.write.new.self) c.loop-page.page c.from.result c.from.ensures
          c.in_ok-write.ensures.ok c.in_ok-write.ensures.others done,
    )

pub returns-clause-ok : goal.returns-clause-ok
returns-clause-ok g c page lt =
    let (count, failed, made, done) = c.loop-page.invariant in
    let below : page < c.loop-page.page = omega (arith, lt, c.loop-page-test.false) in
    zeros-synced (g.D.BlockDisk.slot c.loop-page.disk page) (g.D.BlockDisk.slot c.sync.new.self page) (c.in_ok-sync.ensures.ok page) (done page below)
