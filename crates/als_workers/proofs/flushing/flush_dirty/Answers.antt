use Rattle.std.proofs.Common.{refl}
use Rattle.als_engine.specs.declared.event.Event.TheVariants as event
use Rattle.als_workers.specs.Tallies.{flush_events}
use Rattle.als_workers.proofs.Tallies.{one, both}
use Rattle.als_workers.proofs.flushing.flush_dirty.Goals as goal

pub returns-in_ok-sync_pages : goal.returns-in_ok-sync_pages
returns-in_ok-sync_pages g c =
    both flush_events _ _ _ c.flush_pages.ensures (one flush_events event.SyncPages c.sync_pages.result _ _ refl c.sync_pages.ensures.told)
