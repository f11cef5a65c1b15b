use Rattle.std.proofs.Common.{rules, ◌≡◌, refl, sym, ap, ◌∙◌}
use Rattle.std.proofs.lemmas.Result.{err_from_is_err_and}
use Rattle.als_ckpt.specs.declared.unreached.Unreached.{Unreached}
use Rattle.als_ckpt.specs.declared.control_state.ControlState.{ControlState}
use Rattle.als_ckpt.specs.Again.{saying, forgetting}
use Rattle.als_ckpt.proofs.AgainLaws.{forgets, forgets_leaves, forgets_or_not, unread_leaves, forgetting-same, Restates-same}
use Rattle.als_ckpt.proofs.again.forget_unreached.Goals as goal

pub returns-in_err-before-clause-err : goal.returns-in_err-before-clause-err
returns-in_err-before-clause-err g c =
    let p = err_from_is_err_and c.from_residual.result c.from_residual.ensures.1 in
    rw p.1 (λ said holds.
    unread_leaves c.args.pages c.args.log_bytes (g.D.BlockDisk.slot c.args.disk.now) (g.D.BlockDisk.slot c.read_state.new.disk) said (saying said (forgetting c.args.which said.state)) c.read_state.ensures.blocks holds)

pub returns-in_err-restate-clause-err : goal.returns-in_err-restate-clause-err
returns-in_err-restate-clause-err g c =
    let p = err_from_is_err_and c.from_residual-in_err-restate.result c.from_residual-in_err-restate.ensures.1 in
    rw p.1 (λ said holds.
    forgets_or_not c.args.pages c.args.log_bytes (g.D.BlockDisk.slot c.args.disk.now) (g.D.BlockDisk.slot c.read_state.new.disk) c.read_state.ensures.blocks c.in_ok-before.before said holds
    (c.in_ok-before.ensures.only said.state holds.fits holds.block) c.args.which c.forgetting-after.result (g.D.BlockDisk.slot c.restate.new.disk) c.forgetting-after.ensures (c.in_err-restate.ensures.err c.in_ok-before.before))

pub returns-clause-ok : goal.returns-clause-ok
returns-clause-ok g c said holds =
    forgets c.args.pages c.args.log_bytes (g.D.BlockDisk.slot c.args.disk.now) (g.D.BlockDisk.slot c.read_state.new.disk) c.read_state.ensures.blocks c.in_ok-before.before said holds
    (c.in_ok-before.ensures.only said.state holds.fits holds.block) c.args.which c.forgetting-after.result (g.D.BlockDisk.slot c.restate.new.disk) c.forgetting-after.ensures (c.in_ok-restate.ensures.ok c.in_ok-before.before)

pub returns-clause-leaves : goal.returns-clause-leaves
returns-clause-leaves g c said holds =
    forgets_leaves c.args.pages c.args.log_bytes (g.D.BlockDisk.slot c.args.disk.now) (g.D.BlockDisk.slot c.read_state.new.disk) c.read_state.ensures.blocks c.in_ok-before.before said holds
    (c.in_ok-before.ensures.only said.state holds.fits holds.block) c.args.which c.forgetting-after.result (g.D.BlockDisk.slot c.restate.new.disk) c.forgetting-after.ensures (c.in_ok-restate.ensures.ok c.in_ok-before.before)

-- nothing is to be forgotten
unchanged : (before after : ControlState) (which : Unreached) → after ≡ forgetting which before → after.history ≡ before.history → after ≡ before
unchanged before after which is same = is ∙ forgetting-same which before (ap (λ (s : ControlState). s.history) (sym is) ∙ same)

pub returns-then-is-clause-ok : goal.returns-then-is-clause-ok
returns-then-is-clause-ok g c said holds =
    let read = g.D.BlockDisk.slot c.read_state.new.disk in
    let history : c.forgetting-after.result.history ≡ c.in_ok-before.before.history = search rules in
    let same = unchanged c.in_ok-before.before c.forgetting-after.result c.args.which c.forgetting-after.ensures history in
    forgets c.args.pages c.args.log_bytes (g.D.BlockDisk.slot c.args.disk.now) read c.read_state.ensures.blocks c.in_ok-before.before said holds
    (c.in_ok-before.ensures.only said.state holds.fits holds.block) c.args.which c.forgetting-after.result read c.forgetting-after.ensures
    (Restates-same c.args.pages c.in_ok-before.before c.forgetting-after.result read read same (λ k. refl))

pub returns-then-is-clause-leaves : goal.returns-then-is-clause-leaves
returns-then-is-clause-leaves g c said holds =
    let read = g.D.BlockDisk.slot c.read_state.new.disk in
    let history : c.forgetting-after.result.history ≡ c.in_ok-before.before.history = search rules in
    let same = unchanged c.in_ok-before.before c.forgetting-after.result c.args.which c.forgetting-after.ensures history in
    forgets_leaves c.args.pages c.args.log_bytes (g.D.BlockDisk.slot c.args.disk.now) read c.read_state.ensures.blocks c.in_ok-before.before said holds
    (c.in_ok-before.ensures.only said.state holds.fits holds.block) c.args.which c.forgetting-after.result read c.forgetting-after.ensures
    (Restates-same c.args.pages c.in_ok-before.before c.forgetting-after.result read read same (λ k. refl))
