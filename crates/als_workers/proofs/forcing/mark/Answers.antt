use Rattle.std.proofs.Common.{refl}
use Rattle.als_engine.specs.declared.event.Event.TheVariants as event
use Rattle.als_workers.specs.Tallies.{force_events}
use Rattle.als_workers.proofs.Tallies.{one, both}
use Rattle.als_workers.proofs.forcing.mark.Goals as goal

pub returns-in_err-ctl_sync-in-Ok : goal.returns-in_err-ctl_sync-in-Ok
returns-in_err-ctl_sync-in-Ok g c =
    both force_events _ _ _ (one force_events event.MarkWrite c.mark_write.result _ _ refl c.mark_write.ensures.told)
    (one force_events event.ControlSync c.ctl_sync.result _ _ refl c.ctl_sync.ensures.told)

pub returns-in_ok-ctl_sync-in-Ok : goal.returns-in_ok-ctl_sync-in-Ok
returns-in_ok-ctl_sync-in-Ok g c =
    both force_events _ _ _ (one force_events event.MarkWrite c.mark_write.result _ _ refl c.mark_write.ensures.told)
    (one force_events event.ControlSync c.ctl_sync.result _ _ refl c.ctl_sync.ensures.told)
