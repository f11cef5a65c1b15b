use Rattle.std.proofs.Common.{◌≡◌, ◌≤◌, true, sym, subst, length}
use Rattle.als_record.specs.LogText.{end_of}
use Rattle.als_record.specs.Validity.{is_valid}
use Rattle.als_store.specs.Stored.{acknowledged}
use Rattle.als_engine.specs.Readers.{ended_in}
use Rattle.als_engine.specs.Telling.{IsGrown}
use Rattle.als_engine.specs.Restarts.{IsMadeWith, IsWarm}
use Rattle.als_engine.specs.Serving.{Serving}
use Rattle.als_world.specs.declared.step.WorldStep.{WorldStep}
use Rattle.als_world.specs.declared.step.WorldStep.TheVariants as step
use Rattle.als_world.specs.Standing.{Up}
use Rattle.als_store.specs.Stopped.{devices_of}
use Rattle.als_world.specs.Runs.{IsPicked, StepsTo}
use Rattle.als_world.proofs.KeepLaws.{IsCounted}
use Rattle.als_world.proofs.StepLaws.{not_crash, steps-up, steps-crash}
use Rattle.als_world.proofs.restarting.step_up.Goals as goal

pub act-reply-requires : goal.act-reply-requires
act-reply-requires g c = not_crash c.args.step.now c.in_default.not-Crash

pub returns-in-Crash-clause-steps : goal.returns-in-Crash-clause-steps
returns-in-Crash-clause-steps g c = λ made warm.
    let before = c.status.ensures in
    let counts : IsCounted c.args.standby.machine =
    record {
      valid = subst (λ (e : Serving). is_valid e.machine.held.log ≡ true) c.engine.ensures before.valid;
      stable = subst (λ (e : Serving). acknowledged e.machine.held ≤ end_of e.machine.held.log) c.engine.ensures before.stable;
      published = subst (λ (e : Serving). e.machine.published ≤ ended_in e.machine.held) c.engine.ensures before.counted;
      grown = subst (λ (e : Serving). IsGrown e.machine) c.engine-2.ensures c.history.ensures.grown;
    } in
    let engine = c.into_engine-engine.result in
    let left = c.crash-disks.ensures.leaves c.args.config
    (subst (λ (e : Serving). IsMadeWith c.args.config e.machine) (sym c.into_engine-engine.ensures) made)
    (subst (λ (e : Serving). IsWarm e.machine) (sym c.into_engine-engine.ensures) warm) in
    let disks = devices_of g.D.BlockDisk.slot g.D.BlockDisk.block_count c.crash-disks.result.0 in
    let picked : IsPicked c.args.config engine.machine c.in-Crash.picks.now left.0
    = record { disks = disks; used = c.crash-disks.result.1; crashes = c.crash-disks.ensures.picked; state = c.crash-disks.ensures.state; holds = left.2.node } in
    subst (λ (s : WorldStep). StepsTo g.D.BlockDisk.slot g.D.BlockDisk.block_count c.args.config (Up c.args.standby.machine c.args.slots) s c.open.result.1 c.open.result.0) (sym c.in-Crash.is)
    (subst (λ (e : Serving). IsCounted e.machine → StepsTo g.D.BlockDisk.slot g.D.BlockDisk.block_count c.args.config (Up e.machine c.args.slots) (step.Crash c.in-Crash.picks) c.open.result.1 c.open.result.0) c.into_engine-engine.ensures
    (λ counted. steps-crash g.D.BlockDisk.slot g.D.BlockDisk.block_count c.args.config c.args.slots engine.machine c.in-Crash.picks left.0 c.open.result.1 c.open.result.0 counted left.1 picked
    (c.open.ensures.opens left.0 (length c.args.slots) left.2 c.clear.ensures)) counts)

pub returns-clause-steps : goal.returns-clause-steps
returns-clause-steps g c = λ made warm.
    let before = c.status.ensures in
    let counts : IsCounted c.args.standby.machine =
    record {
      valid = subst (λ (e : Serving). is_valid e.machine.held.log ≡ true) c.engine.ensures before.valid;
      stable = subst (λ (e : Serving). acknowledged e.machine.held ≤ end_of e.machine.held.log) c.engine.ensures before.stable;
      published = subst (λ (e : Serving). e.machine.published ≤ ended_in e.machine.held) c.engine.ensures before.counted;
      grown = subst (λ (e : Serving). IsGrown e.machine) c.engine-2.ensures c.history.ensures.grown;
    } in
    let valid = subst (λ (e : Serving). is_valid e.machine.held.log ≡ true) c.engine-3.ensures c.status-2.ensures.valid in
    rw c.up.ensures (steps-up g.D.BlockDisk.slot g.D.BlockDisk.block_count c.args.config c.args.slots c.args.standby.machine c.args.step.now c.act-reply.result c.act-reply.new.self c.act-reply.new.slots
    made warm c.act-reply.ensures.acts c.act-reply.ensures.keeps counts valid)
