use Rattle.std.proofs.Common.{refl}
use Rattle.als_engine.specs.declared.event.Event.TheVariants as event
use Rattle.als_workers.specs.Tallies.{checkpoint_events}
use Rattle.als_workers.proofs.Tallies.{one}
use Rattle.als_workers.proofs.checkpointing.begin.Goals as goal

pub returns-in-Ok : goal.returns-in-Ok
returns-in-Ok g c = one checkpoint_events event.CkptBegin c.ckpt_begin.result _ _ refl c.ckpt_begin.ensures.told
