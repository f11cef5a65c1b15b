use Rattle.als_store.specs.Stopped.{CrashesTo, devices_of}
use Rattle.als_store.proofs.CrashLaws.{still_kept}
use Rattle.als_store.proofs.PickLaws.{state_picked}
use Rattle.als_store.proofs.store.Store.crash.Goals as goal

pub returns-clause-kept : goal.returns-clause-kept
returns-clause-kept g c =
    let slot = g.D.BlockDisk.slot in
    let was = c.into_disks-disks.result in
    still_kept c.args.self.stored (slot was.log) (slot was.control) (slot c.crash_disks.result.0.log)
    (slot c.crash_disks.result.0.control) c.crash_disks.ensures.log_left
    c.crash_disks.ensures.control_left c.into_disks-disks.ensures.stopped.kept

pub returns-clause-state : goal.returns-clause-state
returns-clause-state g c running =
    let slot = g.D.BlockDisk.slot in
    let count = g.D.BlockDisk.block_count in
    let crashes : CrashesTo c.args.self.stored c.args.picks.now
    (devices_of slot count c.crash_disks.result.0) c.crash_disks.result.1 = record {
      stopped = devices_of slot count c.into_disks-disks.result;
      stops = c.into_disks-disks.ensures.stopped;
      picked = c.crash_disks.ensures.picked;
    } in
    state_picked c.args.self.stored c.args.picks.now (devices_of slot count c.crash_disks.result.0)
    c.crash_disks.result.1 running crashes
