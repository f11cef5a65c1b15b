use Rattle.std.proofs.Common.{arith, subst, sym}
use Rattle.als_engine.specs.Serving.{Serving}
use Rattle.als_engine.specs.Restarts.{IsWarm}
use Rattle.als_world.specs.Standing.{Up, IsSteady, IsTrue}
use Rattle.als_world.proofs.StepLaws.{all-up, all-down}
use Rattle.als_world.proofs.world.World.settle.Goals as goal

pub returns-in-Up-clause-steady : goal.returns-in-Up-clause-steady
returns-in-Up-clause-steady g c =
    all-up g.D.BlockDisk.slot g.D.BlockDisk.block_count c.args.self.now IsSteady c.in-Up.standby c.in-Up.is
    (λ slots warm. subst (λ (e : Serving). IsSteady (Up e.machine slots)) c.engine.ensures c.status.ensures.stable)

pub returns-in-Up-clause-whole : goal.returns-in-Up-clause-whole
returns-in-Up-clause-whole g c =
    all-up g.D.BlockDisk.slot g.D.BlockDisk.block_count c.args.self.now IsTrue c.in-Up.standby c.in-Up.is
    (λ slots warm.
    let held = subst (λ (e : Serving). IsWarm e.machine) (sym c.engine.ensures) warm in
    subst (λ (e : Serving). IsTrue (Up e.machine slots)) c.engine.ensures (c.status.ensures.taken held, c.status.ensures.finished held, c.status.ensures.seal))

pub returns-in-Down-clause-steady : goal.returns-in-Down-clause-steady
returns-in-Down-clause-steady g c = all-down g.D.BlockDisk.slot g.D.BlockDisk.block_count c.args.self.now IsSteady c.in-Down.field-0 c.in-Down.is (λ n workers held. omega (arith, held.stays.node.held.ends))

pub returns-in-Down-clause-whole : goal.returns-in-Down-clause-whole
returns-in-Down-clause-whole g c = all-down g.D.BlockDisk.slot g.D.BlockDisk.block_count c.args.self.now IsTrue c.in-Down.field-0 c.in-Down.is (λ n workers held. (held.stays.node.taken, held.stays.node.held.control.fits.seal))
