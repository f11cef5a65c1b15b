use Rattle.als_engine.proofs.ReaderLaws.{serving_not_flushed}
use Rattle.als_engine.proofs.engine.Engine.flush_in.Goals as goal

pub invariant_of-self : goal.invariant_of-self
invariant_of-self g c =
    let s = c.self.inside in
    serving_not_flushed s.store.stored c.flush.new.self.stored s.receiver s.refused s.shown
    c.args.page c.in_err-flush.field-0.0 c.self.invariant c.in_err-flush.ensures.err
