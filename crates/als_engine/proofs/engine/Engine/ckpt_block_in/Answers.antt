use Rattle.als_engine.proofs.ReaderLaws.{serving_no_block}
use Rattle.als_engine.proofs.engine.Engine.ckpt_block_in.Goals as goal

pub invariant_of-self : goal.invariant_of-self
invariant_of-self g c =
    let s = c.self.inside in
    serving_no_block s.store.stored c.ckpt_block.new.self.stored s.receiver s.refused s.shown
    c.in_err-ckpt_block.field-0.0 c.self.invariant c.in_err-ckpt_block.ensures.err
