use Rattle.std.proofs.Common.{◌≡◌, sym, subst}
use Rattle.als_ckpt_codec.specs.declared.checkpoint.Checkpoint.{Checkpoint}
use Rattle.als_store.specs.Spare.{Holding}
use Rattle.als_store.specs.Origin.{origin_of}
use Rattle.als_store.specs.Warm.{IsWarm}
use Rattle.als_store.specs.Checkpoints.{IsCovering, checkpoint_of}
use Rattle.als_store.proofs.CheckpointLaws.{covering_now}
use Rattle.als_store.proofs.CheckpointSteps.{begin_kept}
use Rattle.als_store.proofs.store.Store.ckpt_begin.Goals as goal

pub invariant_of-self : goal.invariant_of-self
invariant_of-self g c =
    let s = c.self.inside in
    let h = c.self.invariant in
    let copy = c.in_ok-checkpoint.checkpoint in
    let same : copy ≡ checkpoint_of s.log.log s.pool.pool =
    subst (λ (x : Holding). copy ≡ checkpoint_of x.stored.log x.stored.pool)
    (sym c.self.view_is) c.in_ok-checkpoint.ensures.ok in
    let law = c.rows_make_a_checkpoint.ensures in
    let covering : IsWarm s.recovering (origin_of s.log s.control s.pool.pool)
    → IsCovering s.log.log s.pool.pool copy
    = λ w. subst (λ (x : Checkpoint). IsCovering s.log.log s.pool.pool x) (sym same)
    (covering_now s.log.log s.pool.pool
    (law.listed s.log.log s.control.synced.mark.0 s.pool.pool w.is_pool)
    (law.covers s.log.log s.control.synced.mark.0 s.pool.pool w.is_pool)) in
    begin_kept s.pages s.count s.log s.control s.pool.pool s.validator s.broken s.origin
    s.recovering h c.begin.result c.begin.new.self copy covering c.begin.ensures.ok
    c.begin.ensures.err
