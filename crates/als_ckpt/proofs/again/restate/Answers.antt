use Rattle.std.proofs.lemmas.Result.{err_from_is_err_and}
use Rattle.als_ckpt.proofs.AgainLaws.{Restates-synced, RestatesOrNot-failed, RestatesOrNot-unsynced}
use Rattle.als_ckpt.proofs.again.restate.Goals as goal

pub returns-in_err-write_state-clause-err : goal.returns-in_err-write_state-clause-err
returns-in_err-write_state-clause-err g c =
    let p = err_from_is_err_and c.from_residual.result c.from_residual.ensures.1 in
    rw p.1 (λ before. RestatesOrNot-failed c.args.pages before c.args.after.now (g.D.BlockDisk.slot c.args.disk.now) (g.D.BlockDisk.slot c.write_state.new.disk)
    c.write_state.ensures.others c.in_err-write_state.ensures.err)

pub returns-in_err-sync-clause-err : goal.returns-in_err-sync-clause-err
returns-in_err-sync-clause-err g c =
    let p = err_from_is_err_and c.from_residual-in_err-sync.result c.from_residual-in_err-sync.ensures.1 in
    rw p.1 (λ before. RestatesOrNot-unsynced c.args.pages before c.args.after.now (g.D.BlockDisk.slot c.args.disk.now) (g.D.BlockDisk.slot c.sync.new.self) (g.D.BlockDisk.slot c.write_state.new.disk)
    c.write_state.ensures.others c.in_ok-write_state.ensures.ok c.in_err-sync.ensures.err)

pub returns-clause-ok : goal.returns-clause-ok
returns-clause-ok g c before =
    Restates-synced c.args.pages before c.args.after.now (g.D.BlockDisk.slot c.args.disk.now) (g.D.BlockDisk.slot c.sync.new.self) (g.D.BlockDisk.slot c.write_state.new.disk)
    c.write_state.ensures.others c.in_ok-write_state.ensures.ok (g.met.D.BlockDisk.gives_candidates c.write_state.new.disk) c.in_ok-sync.ensures.ok
