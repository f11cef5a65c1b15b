use Rattle.als_engine.proofs.ReaderLaws.{serving_not_shown}
use Rattle.als_engine.proofs.engine.Engine.page_now_in.Goals as goal

pub invariant_of-self : goal.invariant_of-self
invariant_of-self g c =
    let s = c.self.inside in
    serving_not_shown s.store.stored c.page_now.new.self.stored s.receiver s.refused s.shown
    c.args.page c.in_err-found.field-0.0 c.self.invariant c.in_err-found.ensures.err
