use Rattle.std.proofs.Common.{None, refl, ◌∙◌, ap}
use Rattle.als_workers.specs.declared.rule.PassState.{PassState}
use Rattle.als_workers.proofs.Workings.{idle, stays, then}
use Rattle.als_workers.proofs.Tallies.{none, both}
use Rattle.als_workers.proofs.worker.apply_worker.Goals as goal

pub loop-init : goal.loop-init
loop-init g c = (tt, tt, c.requires.queue, refl, idle _ _ _ _ None (stays _ _ refl) refl, none _ _)

pub returns-in-Some-work_once-clause-worked : goal.returns-in-Some-work_once-clause-worked
returns-in-Some-work_once-clause-worked g c = then _ _ _ _ _ _ _ c.loop.invariant.4 c.in-Some-work_once.ensures.worked

pub loop-preserved : goal.loop-preserved
loop-preserved g c =
    let step = c.in_default.ensures.worked in (
      tt,
      tt,
      c.in_default.ensures.queue,
      ap (λ (h : PassState). h.parts) step.passes ∙ c.loop.invariant.3,
      then _ _ _ _ _ _ None c.loop.invariant.4 step,
      both _ _ _ _ c.loop.invariant.5 c.in_default.ensures.gives,
    )

pub returns-in-Some-work_once-clause-gives : goal.returns-in-Some-work_once-clause-gives
returns-in-Some-work_once-clause-gives g c = both _ _ _ _ c.loop.invariant.5 c.in-Some-work_once.ensures.gives
