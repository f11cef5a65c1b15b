use Rattle.als_store.proofs.CheckpointSteps.{stored-next, next_err}
use Rattle.als_store.proofs.store.Store.ckpt_block.Goals as goal

pub invariant_of-self : goal.invariant_of-self
invariant_of-self g c =
    let s = c.self.inside in
    stored-next s.pages s.count s.log s.control s.pool.pool s.validator s.broken s.origin
    s.recovering c.self.invariant c.write_next.new.self c.in-Ok.ensures.ok.1

pub invariant_of-self-in-Err : goal.invariant_of-self-in-Err
invariant_of-self-in-Err g c =
    let s = c.self.inside in
    next_err s.pages s.count s.log s.control s.pool.pool s.validator s.broken s.origin
    s.recovering c.self.invariant c.in-Err.field-0 c.write_next.new.self c.in-Err.ensures.err
