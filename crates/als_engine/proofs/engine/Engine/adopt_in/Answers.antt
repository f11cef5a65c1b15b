use Rattle.std.proofs.Common.{refl}
use Rattle.als_engine.specs.declared.fault.Fault.TheVariants.{Memory}
use Rattle.als_store.specs.Takeover.{adopted_state}
use Rattle.als_engine.proofs.TakingLaws.{rests_dropped}
use Rattle.als_engine.proofs.ReaderLaws.{seen_still}
use Rattle.als_engine.proofs.ReadyLaws.{ready_written, ready_torn, none_is_no_some}
use Rattle.als_engine.proofs.engine.Engine.adopt_in.Goals as goal

pub invariant_of-self : goal.invariant_of-self
invariant_of-self g c =
    let s = c.self.inside in
    record {
      ready = ready_torn s.store.stored c.adopt.new.self.stored
          (adopted_state s.store.stored c.args.history) s.receiver s.refused c.self.invariant.ready
          c.self.invariant.ready.marks
          c.in_err-adopt.ensures.err.1;
      seen = seen_still s.store.stored c.adopt.new.self.stored s.shown c.self.invariant.seen _
          c.in_err-adopt.ensures.err.1.after refl refl refl refl;
    }

pub invariant_of-self-2 : goal.invariant_of-self-2
invariant_of-self-2 g c =
    let s = c.self.inside in
    record {
      ready = ready_written s.store.stored c.adopt.new.self.stored
          (adopted_state s.store.stored c.args.history) s.receiver c.drop_partial.new.self _
          (rests_dropped s.store.stored s.receiver c.drop_partial.new.self
          c.self.invariant.ready.rests c.drop_partial.ensures.same) (none_is_no_some Memory)
          c.self.invariant.ready.marks
          c.in_ok-adopt.ensures.ok;
      seen = seen_still s.store.stored c.adopt.new.self.stored s.shown c.self.invariant.seen _
          c.in_ok-adopt.ensures.ok.after refl refl refl refl;
    }
