use Rattle.std.proofs.Common.{sym, ◌∙◌}
use Rattle.als_engine.specs.Readers.{ended_in}
use Rattle.als_engine.proofs.ReaderLaws.{published_in, seen_published, seen_kept}
use Rattle.als_engine.proofs.engine.Engine.publish_view_in.Goals.{in-Ok, in-Err}
use Rattle.als_engine.proofs.engine.Engine.publish_view_in.Goals as goal

pub invariant_of-self : goal.invariant_of-self
invariant_of-self g c =
    let s = c.self.inside in
    let new = c.publish_ended.new.self in
    let ready = sym c.is_recovering.ensures ∙ c.if-is_recovering.false in
    let at = c.acknowledged-acknowledged.ensures.lsn in
    elim c.match-publish_ended.branch [
      | in-Ok w ↦
          let now = published_in s.store.stored s.shown new
          c.acknowledged-acknowledged.result.0 c.self.invariant.seen c.end.ensures.log.valid at
          c.publish_ended.ensures.shows w.in-Ok.ensures.done in
          record {
            ready = c.self.invariant.ready;
            seen = seen_published s.store.stored s.shown new (ended_in s.store.stored)
                c.self.invariant.seen ready now.shows c.publish_ended.ensures.same.0 now.list;
          }
      | in-Err w ↦
          record {
            ready = c.self.invariant.ready;
            seen = seen_kept s.store.stored s.shown new c.acknowledged-acknowledged.result.0
                c.self.invariant.seen at c.publish_ended.ensures.shows
                c.publish_ended.ensures.same.0 w.in-Err.ensures.err;
          }
    ]
