use Rattle.std.proofs.Common.{rules}
use Rattle.als_engine.proofs.TakingLaws.{rests_dropped}
use Rattle.als_engine.proofs.ReadyLaws.{none_is_no_some}
use Rattle.als_engine.proofs.engine.Engine.resync_in.Goals as goal

pub invariant_of-self : goal.invariant_of-self
invariant_of-self g c = record {
  ready = record {
    rests = rests_dropped c.self.inside.store.stored c.self.inside.receiver c.drop_partial.new.self
        c.self.invariant.ready.rests c.drop_partial.ensures.same;
    marks = c.self.invariant.ready.marks;
    no_want = search (rules, none_is_no_some, c.self.invariant.ready.no_want);
  };
  seen = c.self.invariant.seen;
}
