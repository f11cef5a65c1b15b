use Rattle.std.proofs.Common.{refl}
use Rattle.als_engine.specs.declared.event.Event.TheVariants as event
use Rattle.als_workers.specs.Tallies.{checkpoint_events}
use Rattle.als_workers.proofs.Tallies.{one, both}
use Rattle.als_workers.proofs.checkpointing.write_blocks.Goals as goal

pub loop-preserved : goal.loop-preserved
loop-preserved g c =
    both checkpoint_events _ _ _ c.loop.invariant (one checkpoint_events event.CkptBlock c.ckpt_block.result _ _ refl c.ckpt_block.ensures.told)
