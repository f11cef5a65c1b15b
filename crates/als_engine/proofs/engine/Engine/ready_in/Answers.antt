use Rattle.std.proofs.Common.{sym, ap, ◌∙◌, ℕ, Option, Some, false, arith}
use Rattle.als_store.specs.Stored.{Stored}
use Rattle.als_view.specs.Showing.{published_of}
use Rattle.als_engine.specs.Readers.{ended_in}
use Rattle.als_engine.proofs.FeedLaws.{machine}
use Rattle.als_engine.proofs.ReaderLaws.{published_in, seen_ready, ready_after}
use Rattle.als_engine.proofs.ReaderLaws.{becomes_ready}
use Rattle.als_engine.proofs.engine.Engine.ready_in.Goals as goal

pub invariant_of-self-2 : goal.invariant_of-self-2
invariant_of-self-2 g c =
    let s = c.self.inside in
    let new = c.publish_ended.new.self in
    let now = published_in s.store.stored s.shown new c.acknowledged.result.0
    c.self.invariant.seen c.end.ensures.log.valid c.acknowledged.ensures.lsn
    c.publish_ended.ensures.shows c.in-Ok.ensures.done in
    record {
      ready = ready_after s.store.stored c.ready.new.self.stored s.receiver s.refused
          c.self.invariant.ready c.ready.ensures.stored;
      seen = seen_ready s.store.stored c.ready.new.self.stored s.shown new
          (ended_in s.store.stored) c.self.invariant.seen c.ready.ensures.stored now.shows
          c.publish_ended.ensures.same.0 now.list;
    }

pub returns-clause-readies : goal.returns-clause-readies
returns-clause-readies g c =
    let s = c.self.inside in
    let new = c.publish_ended.new.self in
    let m = machine s.store.stored s.limit s.receiver.kept s.refused (published_of s.shown) in
    let running = sym c.is_broken.ensures ∙ c.if-is_broken.false in
    let recovering = sym c.is_recovering.ensures ∙ c.if-not-is_recovering.false in
    let now = published_in s.store.stored s.shown new c.acknowledged.result.0
    c.self.invariant.seen c.end.ensures.log.valid c.acknowledged.ensures.lsn
    c.publish_ended.ensures.shows c.in-Ok.ensures.done in
    let all = now.list ∙ ap Some
    (c.all_commits_end.ensures s.store.stored.log _ c.end.ensures.log.valid
    (c.self.invariant.seen.stable recovering)) in
    let more = machine c.ready.new.self.stored s.limit s.receiver.kept s.refused
    (published_of new) in
    rw (← c.self.view_is)
    (becomes_ready m more running recovering
    (omega (arith, c.pending.ensures, c.if-pending-gt0.false))
    (ap (λ (h : Stored). machine h s.limit s.receiver.kept s.refused
    (published_of new)) c.ready.ensures.stored
    ∙ ap (λ (n : Option ℕ). machine (record s.store.stored { recovering = false }) s.limit
    s.receiver.kept s.refused n) all))
