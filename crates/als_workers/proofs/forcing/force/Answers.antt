use Rattle.std.proofs.Common.{refl}
use Rattle.als_engine.specs.declared.event.Event.TheVariants as event
use Rattle.als_workers.specs.Tallies.{force_events}
use Rattle.als_workers.proofs.Tallies.{one, both}
use Rattle.als_workers.proofs.forcing.force.Goals as goal

pub returns : goal.returns
returns g c =
    both force_events _ _ _ c.write_log.ensures
    (both force_events _ _ _ (one force_events event.LogSync c.log_sync.result _ _ refl c.log_sync.ensures.told) c.mark.ensures)
