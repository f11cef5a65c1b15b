use Rattle.als_store.specs.Stopped.{devices_of}
use Rattle.als_store.proofs.CrashLaws.{by_picks}
use Rattle.als_store.proofs.StayingLaws.{crash_keeps}
use Rattle.als_store.proofs.store.crashing.crash_disks.Goals as goal

pub returns-clause-picked : goal.returns-clause-picked
returns-clause-picked g c =
    let slot = g.D.BlockDisk.slot in
    let count = g.D.BlockDisk.block_count in
    by_picks (devices_of slot count c.args.disks) _ c.args.picks.now
    c.split_at.result.1.now c.split_at-2.result.1.now c.crash_one-log.result.1
    c.crash_one-control.result.1 c.crash_one-pages.result.1 c.crash_one-log.ensures.picked
    c.crash_one-log.ensures.used c.split_at.ensures.back c.crash_one-control.ensures.picked
    c.crash_one-control.ensures.used c.split_at-2.ensures.back c.crash_one-pages.ensures.picked
    c.crash_one-pages.ensures.used

pub returns-clause-stays : goal.returns-clause-stays
returns-clause-stays g c count blocks n stays =
    crash_keeps count blocks _ _ _ _ _ _ n stays c.crash_one-log.ensures.candidate
    c.crash_one-control.ensures.candidate c.crash_one-pages.ensures.candidate
