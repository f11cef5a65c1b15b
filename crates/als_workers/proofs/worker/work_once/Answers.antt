use Rattle.std.proofs.Common.{◌≡◌, Some, refl, ◌∙◌, ap}
use Rattle.crossbeam_channel.specs.Claims.{view}
use Rattle.als_workers.specs.Rule.{has_taken}
use Rattle.als_workers.specs.declared.ended.Ended.TheVariants.{Stop, Empty, Gate, Memory}
use Rattle.als_workers.proofs.Workings.{idle, stays, took_stop}
use Rattle.als_workers.proofs.worker.work_once.Goals as goal

pub returns-then-is_err-clause-worked : goal.returns-then-is_err-clause-worked
returns-then-is_err-clause-worked g c = idle _ _ _ _ (Some Memory) (stays _ _ refl) c.room.ensures.offers

pub returns-then-not-pass-clause-worked : goal.returns-then-not-pass-clause-worked
returns-then-not-pass-clause-worked g c = idle _ _ _ _ (Some Gate) (stays _ _ refl) c.room.ensures.offers

pub returns-in-None-clause-worked : goal.returns-in-None-clause-worked
returns-in-None-clause-worked g c = idle _ _ _ _ (Some Empty) (stays _ _ c.in-None.ensures.taken) c.room.ensures.offers

pub returns-in-Some-Stop-clause-worked : goal.returns-in-Some-Stop-clause-worked
returns-in-Some-Stop-clause-worked g c =
    let v = view c.args.pass.now in
    idle v (view c.take.new.pass) _ _ (Some Stop)
    (took_stop v (view c.take.new.pass) (c.in-Some-Stop.ensures.taken ∙ ap (has_taken v) c.in-Some-Stop.field-0-is)) c.room.ensures.offers
