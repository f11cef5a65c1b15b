use Rattle.std.proofs.Common.{◌-◌, refl, sym, ◌∙◌, arith}
use Rattle.als_engine.proofs.TakingLaws.{end_grown}
use Rattle.als_engine.proofs.ReadyLaws.{ready_grown, ready_again}
use Rattle.als_view.specs.Showing.{published_of}
use Rattle.als_engine.proofs.ReaderLaws.{seen_grown}
use Rattle.als_engine.proofs.FeedLaws.{machine, feeds_all, feeds_front}
use Rattle.als_engine.proofs.RefusalLaws.{feed_not_refused}
use Rattle.als_engine.proofs.engine.Engine.feed_in.Goals as goal

pub overflow_sub-held_bytes : goal.overflow_sub-held_bytes
overflow_sub-held_bytes g c =
    let front = c.in-Err.ensures.err in
    omega (
      arith,
      end_grown c.self.inside.store.stored c.take_piece.new.held.stored front.records
          front.after,
      c.end-end.ensures.end,
      c.end.ensures.end,
    )

pub invariant_of-self : goal.invariant_of-self
invariant_of-self g c =
    let all = c.in-Ok.ensures.ok in
    record {
      ready = ready_grown c.self.inside.store.stored c.take_piece.new.held.stored
          c.self.inside.receiver c.take_piece.new.receiver c.self.inside.refused all.records
          c.self.invariant.ready all.after all.rests;
      seen = seen_grown c.self.inside.store.stored c.take_piece.new.held.stored c.self.inside.shown
          c.take_piece.new.shown all.records c.self.invariant.seen all.after
          c.take_piece.ensures.goes_on
          (sym c.is_recovering.ensures ∙ c.if-is_recovering.false);
    }

pub invariant_of-self-in-Err : goal.invariant_of-self-in-Err
invariant_of-self-in-Err g c =
    let front = c.in-Err.ensures.err in
    rw c.kept-self-inside.ensures
    (record {
      ready = ready_again c.self.inside.store.stored c.take_piece.new.held.stored
          c.self.inside.receiver c.new.result c.self.inside.refused c.in-Err.fault front.records
          c.end-in-Err.result.0 c.pages.result c.self.invariant.ready front.after c.new.ensures
          c.end-in-Err.ensures.end c.pages.ensures;
      seen = seen_grown c.self.inside.store.stored c.take_piece.new.held.stored c.self.inside.shown
          c.take_piece.new.shown front.records c.self.invariant.seen front.after
          c.take_piece.ensures.goes_on
          (sym c.is_recovering.ensures ∙ c.if-is_recovering.false);
    })

pub returns-in-Ok-clause-feeds : goal.returns-in-Ok-clause-feeds
returns-in-Ok-clause-feeds g c =
    let s = c.self.inside in
    let m = machine s.store.stored s.limit s.receiver.kept s.refused (published_of s.shown) in
    let looked = feed_not_refused m (sym c.is_broken-stopped.ensures ∙ c.if-stopped.false)
    (sym c.is_recovering.ensures ∙ c.if-is_recovering.false)
    (sym c.if-not-is_following.ensures.is) c.in_default.is
    (omega (arith, c.pending.ensures, c.if-pending-self.false)) in
    rw (← c.self.view_is)
    (rw looked
    (feeds_all s.store.stored c.take_piece.new.held.stored s.limit s.receiver.kept c.args.piece.now
    s.refused c.take_piece.new.receiver (published_of s.shown)
    (published_of c.take_piece.new.shown) _ _
    c.in-Ok.ensures.ok c.take_piece.ensures.goes_on.published c.len.ensures.log refl
    (omega (arith, c.len.ensures.count, c.len-records.ensures.count))))

pub returns-in-Err-clause-feeds : goal.returns-in-Err-clause-feeds
returns-in-Err-clause-feeds g c =
    let s = c.self.inside in
    let m = machine s.store.stored s.limit s.receiver.kept s.refused (published_of s.shown) in
    let looked = feed_not_refused m (sym c.is_broken-stopped.ensures ∙ c.if-stopped.false)
    (sym c.is_recovering.ensures ∙ c.if-is_recovering.false)
    (sym c.if-not-is_following.ensures.is) c.in_default.is
    (omega (arith, c.pending.ensures, c.if-pending-self.false)) in
    rw (← c.self.view_is)
    (rw (looked, c.new.ensures, c.kept-self-inside.ensures)
    (feeds_front s.store.stored c.take_piece.new.held.stored s.limit s.receiver.kept
    c.args.piece.now s.refused c.in-Err.fault (published_of s.shown)
    (published_of c.take_piece.new.shown) _ _ (c.end.result.0 - c.end-end.result.0)
    c.in-Err.ensures.err c.take_piece.ensures.goes_on.published c.len-in-Err.ensures.log
    (omega (arith, c.end.ensures.end, c.end-end.ensures.end))
    (omega (arith, c.saturating_sub.ensures, c.partial-partial.ensures))
    (omega (arith, c.len-in-Err.ensures.count, c.len-records.ensures.count))))
