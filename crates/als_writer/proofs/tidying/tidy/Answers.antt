use Rattle.std.proofs.Common.{◌∙◌}
use Rattle.std.proofs.lemmas.Result.{err_from_is_err_and}
use Rattle.als_writer.proofs.Owing.{still_owed, owed_next, owed_taken, so_far_more, so_far_all, so_far_same, so_far_bounds, resync_refused, not_tidied_bounds}
use Rattle.als_writer.proofs.tidying.tidy.Goals as goal

pub returns-in-Err-clause-refused : goal.returns-in-Err-clause-refused
returns-in-Err-clause-refused g c a = resync_refused c.in-Err.fault (g.E.Events.machine c.args.engine.now) (g.E.Events.machine c.resync.new.self) (c.in-Err.ensures.resyncs a)

pub returns-in-Ok-None-clause-done : goal.returns-in-Ok-None-clause-done
returns-in-Ok-None-clause-done g c a =
    let owed = rw c.in-Ok-None.field-0-is at (c.in-Ok-None.ensures.next a) in
    so_far_all (g.E.Events.machine c.args.engine.now) (g.E.Events.machine c.loop.engine) (c.loop.invariant.so_far a) owed.1

pub loop-preserved : goal.loop-preserved
loop-preserved g c = record {
  so_far = λ a.
      let old = g.E.Events.machine c.args.engine.now in
      let mid = g.E.Events.machine c.loop.engine in
      let new = g.E.Events.machine c.feed_record.new.engine in
      let s = c.loop.invariant.so_far a in
      let owed = rw c.in-Ok-Some.field-0-is at (c.in-Ok-Some.ensures.next a) in
      so_far_more old mid new c.in-Ok-Some.owed owed.1.rest s owed.1.first
      (owed_taken mid c.in-Ok-Some.owed (still_owed old mid c.in-Ok-Some.owed owed.1.rest s owed.1.first) new
      (c.in_ok-feed_record-in-Ok-Some.ensures.done a (owed_next mid c.in-Ok-Some.owed (still_owed old mid c.in-Ok-Some.owed owed.1.rest s owed.1.first))));
  book = c.feed_record.ensures.book ∙ c.loop.invariant.book;
}

pub returns-in_err-feed_record-in-Ok-Some-clause-refused : goal.returns-in_err-feed_record-in-Ok-Some-clause-refused
returns-in_err-feed_record-in-Ok-Some-clause-refused g c =
    let p = err_from_is_err_and c.from_residual.result c.from_residual.ensures.1 in
    rw p.1 (λ a.
    let old = g.E.Events.machine c.args.engine.now in
    let mid = g.E.Events.machine c.loop.engine in
    let new = g.E.Events.machine c.feed_record.new.engine in
    let s = c.loop.invariant.so_far a in
    let owed = rw c.in-Ok-Some.field-0-is at (c.in-Ok-Some.ensures.next a) in
    so_far_same old mid new s (c.in_err-feed_record-in-Ok-Some.ensures.same a (owed_next mid c.in-Ok-Some.owed (still_owed old mid c.in-Ok-Some.owed owed.1.rest s owed.1.first))))

pub returns-in-Err-clause-bounds : goal.returns-in-Err-clause-bounds
returns-in-Err-clause-bounds g c bounds a b =
    let old = g.E.Events.machine c.args.engine.now in
    let new = g.E.Events.machine c.resync.new.self in
    not_tidied_bounds old new bounds (resync_refused c.in-Err.fault old new (c.in-Err.ensures.resyncs a)) b

pub returns-in_err-feed_record-in-Ok-Some-clause-bounds : goal.returns-in_err-feed_record-in-Ok-Some-clause-bounds
returns-in_err-feed_record-in-Ok-Some-clause-bounds g c bounds a b =
    let old = g.E.Events.machine c.args.engine.now in
    let mid = g.E.Events.machine c.loop.engine in
    let new = g.E.Events.machine c.feed_record.new.engine in
    let s = c.loop.invariant.so_far a in
    let owed = rw c.in-Ok-Some.field-0-is at (c.in-Ok-Some.ensures.next a) in
    let same = c.in_err-feed_record-in-Ok-Some.ensures.same a (owed_next mid c.in-Ok-Some.owed (still_owed old mid c.in-Ok-Some.owed owed.1.rest s owed.1.first)) in
    not_tidied_bounds old new bounds (so_far_same old mid new s same) b

pub returns-in-Ok-None-clause-bounds : goal.returns-in-Ok-None-clause-bounds
returns-in-Ok-None-clause-bounds g c bounds a b = so_far_bounds (g.E.Events.machine c.args.engine.now) (g.E.Events.machine c.loop.engine) bounds (c.loop.invariant.so_far a) b

pub returns-clause-bounds : goal.returns-clause-bounds
returns-clause-bounds g c bounds a b = so_far_bounds (g.E.Events.machine c.args.engine.now) (g.E.Events.machine c.loop.engine) bounds (c.loop.invariant.so_far a) b
