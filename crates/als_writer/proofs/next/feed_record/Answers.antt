use Rattle.std.proofs.Common.{◌≡◌, ℕ, ◌+◌, ◌*◌, ◌<◌, ◌≤◌, ◌^◌, List, [], ◌∷◌, Ok, Err, subst, arith}
use Rattle.als_record.specs.LogText.{spellings, end_of}
use Rattle.als_record.specs.Tail.{reserve_of}
use Rattle.als_engine.specs.Refusals.{feed_refusal}
use Rattle.als_engine.specs.Feeds.{Feeds}
use Rattle.als_writer.proofs.Nexts.{next_done, next_stopped, spelled_one}
use Rattle.als_writer.proofs.next.feed_record.Goals as goal

pub returns-in-Ok-clause-done : goal.returns-in-Ok-clause-done
returns-in-Ok-clause-done g c a o =
    let m = g.E.Events.machine c.args.engine.now in
    let new = g.E.Events.machine c.feed.new.self in
    let st = c.status.ensures.stands a in
    let te = c.status.ensures.tells a in
    let wr = c.writing.ensures.writing a in
    let e : c.status.result.end.0 ≡ end_of m.held.log = te.end in
    let short : end_of m.held.log < 2 ^ 64 = omega (arith, e, c.status.ensures.fits) in
    let free : end_of m.held.log + reserve_of m.held.log + c.writing.result.free ≡ 512 * m.held.blocks = wr.free in
    let roomy : end_of m.held.log + reserve_of m.held.log ≤ 512 * m.held.blocks = omega (arith, free) in
    let spelled : c.in_ok-piece.piece.items ≡ spellings (c.args.next.now ∷ []) = spelled_one c.args.next.now c.in_ok-piece.piece.items c.in_ok-piece.ensures.spelled in
    let f = subst (λ (b : List ℕ). Feeds m b (feed_refusal m) (Ok c.in-Ok.field-0) new) c.deref.ensures.value (c.in-Ok.ensures.feeds a) in
    next_done m c.args.next.now o st.log short roomy c.in_ok-piece.piece.items spelled c.in-Ok.field-0 new f

pub returns-then-refusal-gt0-clause-done : goal.returns-then-refusal-gt0-clause-done
returns-then-refusal-gt0-clause-done g c a o =
    let m = g.E.Events.machine c.args.engine.now in
    let new = g.E.Events.machine c.feed.new.self in
    let st = c.status.ensures.stands a in
    let te = c.status.ensures.tells a in
    let wr = c.writing.ensures.writing a in
    let e : c.status.result.end.0 ≡ end_of m.held.log = te.end in
    let short : end_of m.held.log < 2 ^ 64 = omega (arith, e, c.status.ensures.fits) in
    let free : end_of m.held.log + reserve_of m.held.log + c.writing.result.free ≡ 512 * m.held.blocks = wr.free in
    let roomy : end_of m.held.log + reserve_of m.held.log ≤ 512 * m.held.blocks = omega (arith, free) in
    let spelled : c.in_ok-piece.piece.items ≡ spellings (c.args.next.now ∷ []) = spelled_one c.args.next.now c.in_ok-piece.piece.items c.in_ok-piece.ensures.spelled in
    let f = subst (λ (b : List ℕ). Feeds m b (feed_refusal m) (Err c.in-Err.refusal) new) c.deref.ensures.value (c.in-Err.ensures.feeds a) in
    let s = next_stopped m c.args.next.now o st.log short roomy c.in_ok-piece.piece.items spelled c.in-Err.refusal new f in
    s.held_one (omega (arith, c.if-refusal-gt0.true))

pub returns-in-Memory-clause-same : goal.returns-in-Memory-clause-same
returns-in-Memory-clause-same g c a o =
    let m = g.E.Events.machine c.args.engine.now in
    let new = g.E.Events.machine c.feed.new.self in
    let st = c.status.ensures.stands a in
    let te = c.status.ensures.tells a in
    let wr = c.writing.ensures.writing a in
    let e : c.status.result.end.0 ≡ end_of m.held.log = te.end in
    let short : end_of m.held.log < 2 ^ 64 = omega (arith, e, c.status.ensures.fits) in
    let free : end_of m.held.log + reserve_of m.held.log + c.writing.result.free ≡ 512 * m.held.blocks = wr.free in
    let roomy : end_of m.held.log + reserve_of m.held.log ≤ 512 * m.held.blocks = omega (arith, free) in
    let spelled : c.in_ok-piece.piece.items ≡ spellings (c.args.next.now ∷ []) = spelled_one c.args.next.now c.in_ok-piece.piece.items c.in_ok-piece.ensures.spelled in
    let f = subst (λ (b : List ℕ). Feeds m b (feed_refusal m) (Err c.in-Err.refusal) new) c.deref.ensures.value (c.in-Err.ensures.feeds a) in
    let s = next_stopped m c.args.next.now o st.log short roomy c.in_ok-piece.piece.items spelled c.in-Err.refusal new f in
    s.held_none (omega (arith, c.if-refusal-gt0.false))

pub returns-clause-same : goal.returns-clause-same
returns-clause-same g c a o =
    let m = g.E.Events.machine c.args.engine.now in
    let new = g.E.Events.machine c.feed.new.self in
    let st = c.status.ensures.stands a in
    let te = c.status.ensures.tells a in
    let wr = c.writing.ensures.writing a in
    let e : c.status.result.end.0 ≡ end_of m.held.log = te.end in
    let short : end_of m.held.log < 2 ^ 64 = omega (arith, e, c.status.ensures.fits) in
    let free : end_of m.held.log + reserve_of m.held.log + c.writing.result.free ≡ 512 * m.held.blocks = wr.free in
    let roomy : end_of m.held.log + reserve_of m.held.log ≤ 512 * m.held.blocks = omega (arith, free) in
    let spelled : c.in_ok-piece.piece.items ≡ spellings (c.args.next.now ∷ []) = spelled_one c.args.next.now c.in_ok-piece.piece.items c.in_ok-piece.ensures.spelled in
    let f = subst (λ (b : List ℕ). Feeds m b (feed_refusal m) (Err c.in-Err.refusal) new) c.deref.ensures.value (c.in-Err.ensures.feeds a) in
    let s = next_stopped m c.args.next.now o st.log short roomy c.in_ok-piece.piece.items spelled c.in-Err.refusal new f in
    s.other c.in_default.not-Memory

pub returns-clause-refused : goal.returns-clause-refused
returns-clause-refused g c a o =
    let m = g.E.Events.machine c.args.engine.now in
    let new = g.E.Events.machine c.feed.new.self in
    let st = c.status.ensures.stands a in
    let te = c.status.ensures.tells a in
    let wr = c.writing.ensures.writing a in
    let e : c.status.result.end.0 ≡ end_of m.held.log = te.end in
    let short : end_of m.held.log < 2 ^ 64 = omega (arith, e, c.status.ensures.fits) in
    let free : end_of m.held.log + reserve_of m.held.log + c.writing.result.free ≡ 512 * m.held.blocks = wr.free in
    let roomy : end_of m.held.log + reserve_of m.held.log ≤ 512 * m.held.blocks = omega (arith, free) in
    let spelled : c.in_ok-piece.piece.items ≡ spellings (c.args.next.now ∷ []) = spelled_one c.args.next.now c.in_ok-piece.piece.items c.in_ok-piece.ensures.spelled in
    let f = subst (λ (b : List ℕ). Feeds m b (feed_refusal m) (Err c.in-Err.refusal) new) c.deref.ensures.value (c.in-Err.ensures.feeds a) in
    let s = next_stopped m c.args.next.now o st.log short roomy c.in_ok-piece.piece.items spelled c.in-Err.refusal new f in
    s.cause c.in_default.not-Memory
