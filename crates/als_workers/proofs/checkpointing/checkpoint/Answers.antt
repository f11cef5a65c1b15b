use Rattle.std.proofs.Common.{refl}
use Rattle.als_engine.specs.declared.event.Event.TheVariants as event
use Rattle.als_workers.specs.Tallies.{checkpoint_events}
use Rattle.als_workers.proofs.Tallies.{one, both}
use Rattle.als_workers.proofs.checkpointing.checkpoint.Goals as goal

pub returns : goal.returns
returns g c =
    both checkpoint_events _ _ _ c.begin.ensures
    (both checkpoint_events _ _ _ c.write_blocks.ensures
    (both checkpoint_events _ _ _ (one checkpoint_events event.ControlSync c.ctl_sync.result _ _ refl c.ctl_sync.ensures.told)
    c.publish.ensures))
