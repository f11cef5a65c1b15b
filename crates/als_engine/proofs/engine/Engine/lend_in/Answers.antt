use Rattle.als_engine.proofs.ReaderLaws.{serving_not_lent}
use Rattle.als_engine.proofs.engine.Engine.lend_in.Goals as goal

pub invariant_of-self : goal.invariant_of-self
invariant_of-self g c =
    let s = c.self.inside in
    serving_not_lent s.store.stored c.lend.new.self.stored s.receiver s.refused s.shown
    c.args.page c.in_err-lease.field-0.0 c.self.invariant c.in_err-lease.ensures.err
