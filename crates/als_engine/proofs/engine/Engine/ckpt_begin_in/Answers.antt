use Rattle.als_engine.proofs.ReaderLaws.{serving_not_begun}
use Rattle.als_engine.proofs.engine.Engine.ckpt_begin_in.Goals as goal

pub invariant_of-self : goal.invariant_of-self
invariant_of-self g c =
    let s = c.self.inside in
    serving_not_begun s.store.stored c.ckpt_begin.new.self.stored s.receiver s.refused s.shown
    c.in_err-ckpt_begin.field-0.0 c.self.invariant c.in_err-ckpt_begin.ensures.err
