use Rattle.std.proofs.Common.{sym, subst, ap}
use Rattle.als_engine.specs.declared.config.Config.{Config}
use Rattle.als_world.specs.declared.step.WorldStep.{WorldStep}
use Rattle.als_world.specs.Standing.{Down}
use Rattle.als_world.specs.Runs.{StepsTo}
use Rattle.als_world.specs.declared.world.World.{World}
use Rattle.als_world.proofs.StepLaws.{not_crash, steps-refused, steps-again}
use Rattle.als_world.proofs.restarting.step_down.Goals as goal

pub returns-in-Crash-clause-steps : goal.returns-in-Crash-clause-steps
returns-in-Crash-clause-steps g c = λ n workers held empty.
    subst (λ (s : WorldStep). StepsTo g.D.BlockDisk.slot g.D.BlockDisk.block_count c.args.config (Down n workers) s c.open.result.1 c.open.result.0) (sym c.in-Crash.is)
    (steps-again g.D.BlockDisk.slot g.D.BlockDisk.block_count c.args.config c.args.slots n workers c.in-Crash.picks c.open.result.1 c.open.result.0 held.stays.node.held.ends
    (c.open.ensures.opens n workers (c.crash.ensures.left c.args.config n held) empty))

pub returns : goal.returns
returns g c = record {
  steps = λ n workers held empty.
      rw c.down.ensures (steps-refused g.D.BlockDisk.slot g.D.BlockDisk.block_count c.args.config c.args.slots n workers c.args.step.now c.args.disks
      (not_crash c.args.step.now c.in_default.not-Crash) held empty);
  same = ap (λ (w : World _). w.config) c.down.ensures;
}
