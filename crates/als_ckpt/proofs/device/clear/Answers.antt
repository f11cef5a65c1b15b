use Rattle.std.proofs.Common.{ap, subst, ◌∙◌}
use Rattle.std.proofs.lemmas.Result.{err_from_is_err_and}
use Rattle.als_disk.specs.Slot.{written, FailsToWrite}
use Rattle.als_disk.specs.SlotLaws.{candidates-fail}
use Rattle.als_disk.specs.Store.{zeros}
use Rattle.als_ckpt.proofs.DeviceLaws.{zeros-replicate, only-synced, candidates-unsynced}
use Rattle.als_ckpt.proofs.device.clear.Goals as goal

pub returns-in_err-write-clause-err : goal.returns-in_err-write-clause-err
returns-in_err-write-clause-err g c =
    let p = err_from_is_err_and c.from_residual.result c.from_residual.ensures.1 in
    let old = g.D.BlockDisk.slot c.args.disk.now 0 in
    let new = g.D.BlockDisk.slot c.write.new.self 0 in
    rw p.1 (λ content has. candidates-fail old new zeros content (subst (FailsToWrite old new) zeros-replicate c.in_err-write.ensures.err) has)

pub returns-in_err-sync-clause-err : goal.returns-in_err-sync-clause-err
returns-in_err-sync-clause-err g c =
    let p = err_from_is_err_and c.from_residual-in_err-sync.result c.from_residual-in_err-sync.ensures.1 in
    let old = g.D.BlockDisk.slot c.args.disk.now 0 in
    rw p.1 (candidates-unsynced old (g.D.BlockDisk.slot c.write.new.self 0) (g.D.BlockDisk.slot c.sync.new.self 0) zeros
    (c.in_ok-write.ensures.ok ∙ ap (written old) zeros-replicate) (c.in_err-sync.ensures.err 0))

pub returns-clause-ok : goal.returns-clause-ok
returns-clause-ok g c =
    let old = g.D.BlockDisk.slot c.args.disk.now 0 in
    only-synced old (g.D.BlockDisk.slot c.write.new.self 0) (g.D.BlockDisk.slot c.sync.new.self 0) zeros
    (c.in_ok-write.ensures.ok ∙ ap (written old) zeros-replicate) (c.in_ok-sync.ensures.ok 0)
