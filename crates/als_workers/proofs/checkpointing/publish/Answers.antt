use Rattle.std.proofs.Common.{refl}
use Rattle.als_engine.specs.declared.event.Event.TheVariants as event
use Rattle.als_workers.specs.Tallies.{checkpoint_events}
use Rattle.als_workers.proofs.Tallies.{one, both}
use Rattle.als_workers.proofs.checkpointing.publish.Goals as goal

pub returns-in_err-ctl_sync-in-Ok : goal.returns-in_err-ctl_sync-in-Ok
returns-in_err-ctl_sync-in-Ok g c =
    both checkpoint_events _ _ _ (one checkpoint_events event.CkptPublish c.ckpt_publish.result _ _ refl c.ckpt_publish.ensures.told)
    (one checkpoint_events event.ControlSync c.ctl_sync.result _ _ refl c.ctl_sync.ensures.told)

pub returns-in_ok-ctl_sync-in-Ok : goal.returns-in_ok-ctl_sync-in-Ok
returns-in_ok-ctl_sync-in-Ok g c =
    both checkpoint_events _ _ _ (one checkpoint_events event.CkptPublish c.ckpt_publish.result _ _ refl c.ckpt_publish.ensures.told)
    (one checkpoint_events event.ControlSync c.ctl_sync.result _ _ refl c.ctl_sync.ensures.told)
