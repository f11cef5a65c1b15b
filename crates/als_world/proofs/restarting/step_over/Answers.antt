use Rattle.std.proofs.Common.{sym, ◌∙◌}
use Rattle.als_world.proofs.StepLaws.{over-up, over-down}
use Rattle.als_world.proofs.restarting.step_over.Goals as goal

pub returns-in-Up-clause-steps : goal.returns-in-Up-clause-steps
returns-in-Up-clause-steps g c =
    let parts = c.into_parts-slots.ensures in
    over-up g.D.BlockDisk.slot g.D.BlockDisk.block_count c.args.world c.args.step.now c.step_up.result.1 c.step_up.result.0 c.in-Up.standby (sym parts.place ∙ c.in-Up.is)
    (rw (← parts.config, ← parts.slots) c.step_up.ensures.steps)

pub returns-in-Down-clause-steps : goal.returns-in-Down-clause-steps
returns-in-Down-clause-steps g c =
    let parts = c.into_parts-slots.ensures in
    over-down g.D.BlockDisk.slot g.D.BlockDisk.block_count c.args.world c.args.step.now c.step_down.result.1 c.step_down.result.0 c.in-Down.disks (sym parts.place ∙ c.in-Down.is)
    (rw (← parts.config, ← parts.slots) c.step_down.ensures.steps)
