use Rattle.std.proofs.Common.{sym, ◌∙◌}
use Rattle.als_engine.proofs.FeedLaws.{machine}
use Rattle.als_engine.proofs.ReadyLaws.{ready_published, ready_unpublished}
use Rattle.als_view.specs.Showing.{published_of}
use Rattle.als_engine.proofs.ReaderLaws.{seen_checkpoint, seen_no_checkpoint}
use Rattle.als_engine.proofs.CheckpointLaws.{publishes}
use Rattle.als_engine.proofs.engine.Engine.ckpt_publish_in.Goals as goal

pub invariant_of-self : goal.invariant_of-self
invariant_of-self g c =
    let s = c.self.inside in
    record {
      ready = ready_unpublished s.store.stored c.ckpt_publish.new.self.stored s.receiver s.refused
          c.in_err-ckpt_publish.field-0.0 c.self.invariant.ready c.in_err-ckpt_publish.ensures.err;
      seen = seen_no_checkpoint s.store.stored c.ckpt_publish.new.self.stored s.shown
          c.in_err-ckpt_publish.field-0.0 c.self.invariant.seen c.in_err-ckpt_publish.ensures.err;
    }

pub invariant_of-self-2 : goal.invariant_of-self-2
invariant_of-self-2 g c =
    let s = c.self.inside in
    record {
      ready = ready_published s.store.stored c.ckpt_publish.new.self.stored s.receiver s.refused
          c.self.invariant.ready s.store.stored.begun c.in_ok-ckpt_publish.ensures.ok;
      seen = seen_checkpoint s.store.stored c.ckpt_publish.new.self.stored s.shown
          c.self.invariant.seen s.store.stored.begun c.in_ok-ckpt_publish.ensures.ok;
    }

pub returns-clause-publishes : goal.returns-clause-publishes
returns-clause-publishes g c =
    let s = c.self.inside in
    let m = machine s.store.stored s.limit s.receiver.kept s.refused (published_of s.shown) in
    rw (← c.self.view_is)
    (publishes m c.ckpt_publish.new.self.stored (sym c.is_broken.ensures ∙ c.if-is_broken.false)
    c.in_ok-ckpt_publish.ensures.ok)
