use Rattle.std.proofs.Common.{refl}
use Rattle.als_engine.specs.declared.event.Event.TheVariants as event
use Rattle.als_workers.specs.Tallies.{force_events}
use Rattle.als_workers.proofs.Tallies.{one, both}
use Rattle.als_workers.proofs.forcing.write_log.Goals as goal

pub loop-preserved : goal.loop-preserved
loop-preserved g c =
    both force_events _ _ _ c.loop.invariant (one force_events event.LogWrite c.log_write.result _ _ refl c.log_write.ensures.told)
