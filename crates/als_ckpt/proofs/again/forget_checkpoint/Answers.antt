use Rattle.std.proofs.lemmas.Result.{err_from_is_err_and}
use Rattle.als_ckpt.specs.Again.{unpublished}
use Rattle.als_ckpt.proofs.AgainLaws.{unpublishes, unpublishes_leaves, unpublishes_or_not, unread_leaves}
use Rattle.als_ckpt.proofs.again.forget_checkpoint.Goals as goal

pub returns-in_err-before-clause-err : goal.returns-in_err-before-clause-err
returns-in_err-before-clause-err g c =
    let p = err_from_is_err_and c.from_residual.result c.from_residual.ensures.1 in
    rw p.1 (λ said holds.
    unread_leaves c.args.pages c.args.log_bytes (g.D.BlockDisk.slot c.args.disk.now) (g.D.BlockDisk.slot c.read_state.new.disk) said (unpublished said) c.read_state.ensures.blocks holds)

pub returns-in_err-restate-clause-err : goal.returns-in_err-restate-clause-err
returns-in_err-restate-clause-err g c =
    let p = err_from_is_err_and c.from_residual-in_err-restate.result c.from_residual-in_err-restate.ensures.1 in
    rw p.1 (λ said holds.
    unpublishes_or_not c.args.pages c.args.log_bytes (g.D.BlockDisk.slot c.args.disk.now) (g.D.BlockDisk.slot c.read_state.new.disk) c.read_state.ensures.blocks c.in_ok-before.before said holds
    (c.in_ok-before.ensures.only said.state holds.fits holds.block) c.without_checkpoint-after.result (g.D.BlockDisk.slot c.restate.new.disk) c.without_checkpoint-after.ensures (c.in_err-restate.ensures.err c.in_ok-before.before))

pub returns-clause-ok : goal.returns-clause-ok
returns-clause-ok g c said holds =
    unpublishes c.args.pages c.args.log_bytes (g.D.BlockDisk.slot c.args.disk.now) (g.D.BlockDisk.slot c.read_state.new.disk) c.read_state.ensures.blocks c.in_ok-before.before said holds
    (c.in_ok-before.ensures.only said.state holds.fits holds.block) c.without_checkpoint-after.result (g.D.BlockDisk.slot c.restate.new.disk) c.without_checkpoint-after.ensures (c.in_ok-restate.ensures.ok c.in_ok-before.before)

pub returns-clause-leaves : goal.returns-clause-leaves
returns-clause-leaves g c said holds =
    unpublishes_leaves c.args.pages c.args.log_bytes (g.D.BlockDisk.slot c.args.disk.now) (g.D.BlockDisk.slot c.read_state.new.disk) c.read_state.ensures.blocks c.in_ok-before.before said holds
    (c.in_ok-before.ensures.only said.state holds.fits holds.block) c.without_checkpoint-after.result (g.D.BlockDisk.slot c.restate.new.disk) c.without_checkpoint-after.ensures (c.in_ok-restate.ensures.ok c.in_ok-before.before)
