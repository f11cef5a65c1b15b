use Rattle.std.proofs.Common.{refl, subst, ◌∙◌, arith}
use Rattle.als_world.specs.declared.step.WorldStep.{WorldStep}
use Rattle.als_world.proofs.RunLaws.{Goes, reaches-none, run-next, run-done}
use Rattle.als_world.proofs.running.run.Goals as goal

pub loop-step-init : goal.loop-step-init
loop-step-init g c = record {
  reaches = rw c.in-Ok.ensures.items (reaches-none g.D.BlockDisk.slot g.D.BlockDisk.block_count c.args.world c.settle.ensures.steady);
  config = refl;
  within = omega arith;
  len_is = c.in-Ok.ensures.len;
  room = c.in-Ok.ensures.capacity;
}

pub push_reserved-requires : goal.push_reserved-requires
push_reserved-requires g c = omega (arith, c.loop-step.invariant.len_is, c.loop-step.invariant.room, c.loop-step-test.true)

pub loop-step-preserved : goal.loop-step-preserved
loop-step-preserved g c = record {
  reaches = rw c.push_reserved.ensures.items (run-next g.D.BlockDisk.slot g.D.BlockDisk.block_count c.args.world c.loop-step.world c.step_over-after.result.0 c.args.steps.now c.loop-step.step-index c.step-item.result
      c.step_over-after.result.1 c.loop-step.replies.items c.loop-step-test.true c.loop-step.invariant.config c.loop-step.invariant.reaches
      (subst (λ (step : WorldStep). Goes g.D.BlockDisk.slot g.D.BlockDisk.block_count c.loop-step.world step c.step_over-after.result.1 c.step_over-after.result.0)
      c.step-item.is c.step_over-after.ensures.steps));
  config = c.step_over-after.ensures.same ∙ c.loop-step.invariant.config;
  within = omega (arith, c.loop-step-test.true);
  len_is = omega (arith, c.push_reserved.ensures.len, c.loop-step.invariant.len_is);
  room = omega (arith, c.push_reserved.ensures.capacity, c.loop-step.invariant.room);
}

pub returns-clause-run : goal.returns-clause-run
returns-clause-run g c = run-done g.D.BlockDisk.slot g.D.BlockDisk.block_count c.args.world c.loop-step.world c.args.steps.now c.loop-step.step-index c.loop-step.replies.items c.loop-step-test.false c.loop-step.invariant.reaches c.settle-2.ensures.whole
