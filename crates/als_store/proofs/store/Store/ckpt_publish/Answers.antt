use Rattle.std.proofs.Common.{refl}
use Rattle.als_store.proofs.CheckpointSteps.{publish_kept, publish_err}
use Rattle.als_store.proofs.store.Store.ckpt_publish.Goals as goal

pub invariant_of-self : goal.invariant_of-self
invariant_of-self g c =
    let s = c.self.inside in
    publish_kept s.pages s.count s.log s.control s.pool.pool s.validator s.broken s.origin
    s.recovering c.self.invariant c.publish.new.self c.end.ensures.facts s.control.begun refl
    c.in-Ok.ensures.ok

pub invariant_of-self-in-Err : goal.invariant_of-self-in-Err
invariant_of-self-in-Err g c =
    let s = c.self.inside in
    publish_err s.pages s.count s.log s.control s.pool.pool s.validator s.broken s.origin
    s.recovering c.self.invariant c.in-Err.field-0 c.publish.new.self c.end.ensures.facts
    c.in-Err.ensures.err
