use Rattle.std.proofs.Common.{refl}
use Rattle.als_store.specs.Takeover.{finished_state}
use Rattle.als_engine.proofs.ReaderLaws.{seen_still}
use Rattle.als_engine.proofs.ReadyLaws.{ready_written, ready_torn}
use Rattle.als_engine.proofs.engine.Engine.finish_in.Goals as goal

pub invariant_of-self : goal.invariant_of-self
invariant_of-self g c =
    let s = c.self.inside in
    record {
      ready = ready_torn s.store.stored c.finish.new.self.stored (finished_state s.store.stored)
          s.receiver s.refused c.self.invariant.ready c.self.invariant.ready.marks
          c.in_err-finish.ensures.err.1;
      seen = seen_still s.store.stored c.finish.new.self.stored s.shown c.self.invariant.seen _
          c.in_err-finish.ensures.err.1.after refl refl refl refl;
    }

pub invariant_of-self-2 : goal.invariant_of-self-2
invariant_of-self-2 g c =
    let s = c.self.inside in
    record {
      ready = ready_written s.store.stored c.finish.new.self.stored (finished_state s.store.stored)
          s.receiver s.receiver s.refused c.self.invariant.ready.rests
          c.self.invariant.ready.no_want c.self.invariant.ready.marks c.in_ok-finish.ensures.ok;
      seen = seen_still s.store.stored c.finish.new.self.stored s.shown c.self.invariant.seen _
          c.in_ok-finish.ensures.ok.after refl refl refl refl;
    }
