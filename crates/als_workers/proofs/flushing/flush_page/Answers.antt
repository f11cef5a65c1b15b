use Rattle.std.proofs.Common.{refl}
use Rattle.als_engine.specs.declared.event.Event.TheVariants as event
use Rattle.als_workers.specs.Tallies.{flush_events}
use Rattle.als_workers.proofs.Tallies.{one}
use Rattle.als_workers.proofs.flushing.flush_page.Goals as goal

pub returns-in-Ok : goal.returns-in-Ok
returns-in-Ok g c = one flush_events event.Flush c.flush.result _ _ refl c.flush.ensures.told
