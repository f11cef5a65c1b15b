use Rattle.std.proofs.Common.{refl}
use Rattle.als_engine.proofs.ReaderLaws.{seen_still, seen_unmarked}
use Rattle.als_engine.proofs.ReadyLaws.{ready_marked, ready_failed}
use Rattle.als_engine.proofs.engine.Engine.mark_write_in.Goals as goal

pub invariant_of-self : goal.invariant_of-self
invariant_of-self g c =
    let s = c.self.inside in
    record {
      ready = ready_failed s.store.stored c.mark_write.new.self.stored s.receiver s.refused
          c.in_err-mark_write.field-0.0 c.self.invariant.ready c.in_err-mark_write.ensures.err;
      seen = seen_unmarked s.store.stored c.mark_write.new.self.stored s.shown
          c.in_err-mark_write.field-0.0 c.self.invariant.seen c.in_err-mark_write.ensures.err;
    }

pub invariant_of-self-2 : goal.invariant_of-self-2
invariant_of-self-2 g c =
    let s = c.self.inside in
    record {
      ready = ready_marked s.store.stored c.mark_write.new.self.stored s.receiver s.refused
          c.self.invariant.ready c.in_ok-mark_write.ensures.ok;
      seen = seen_still s.store.stored c.mark_write.new.self.stored s.shown c.self.invariant.seen _
          c.in_ok-mark_write.ensures.ok.after refl refl refl refl;
    }
