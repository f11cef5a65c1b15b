use Rattle.std.proofs.Common.{ℕ, ◌<◌, ◌≤◌, List, length, Ok, Err, sym, subst, arith}
use Rattle.std.proofs.lemmas.Bool.{ltb-true, ltb-false}
use Rattle.als_engine.specs.Refusals.{feed_refusal}
use Rattle.als_engine.specs.Feeds.{Feeds}
use Rattle.als_writer.specs.declared.written.Written.{Written}
use Rattle.als_writer.specs.Committing.{IsInLog}
use Rattle.als_writer.specs.Preparing.{IsPrepared}
use Rattle.als_writer.proofs.Closed.{fed_refused, fed_memory}
use Rattle.als_writer.proofs.Committed.{fed_whole, fed_commit}
use Rattle.als_writer.proofs.Prepared.{prepared_whole, prepared_past}
use Rattle.als_writer.proofs.writing.feed_plan.Goals as goal

pub returns-in-Ok-clause-done : goal.returns-in-Ok-clause-done
returns-in-Ok-clause-done g c a p =
    let m = g.E.Events.machine c.args.engine.now in
    let new = g.E.Events.machine c.feed.new.self in
    let f = subst (λ (b : List ℕ). Feeds m b (feed_refusal m) (Ok c.in-Ok.field-0) new) c.deref.ensures.value (c.in-Ok.ensures.feeds a) in
    subst (λ (w : Written). IsInLog m c.args.transaction.now w new) (sym c.told_of.ensures)
    (fed_whole m c.args.transaction.now c.args.planned.now p c.in-Ok.field-0 new f)

pub returns-in-Ok-clause-prepared : goal.returns-in-Ok-clause-prepared
returns-in-Ok-clause-prepared g c a p =
    let m = g.E.Events.machine c.args.engine.now in
    let new = g.E.Events.machine c.feed.new.self in
    let f = subst (λ (b : List ℕ). Feeds m b (feed_refusal m) (Ok c.in-Ok.field-0) new) c.deref.ensures.value (c.in-Ok.ensures.feeds a) in
    subst (λ (w : Written). IsPrepared m c.args.transaction.now w new) (sym c.told_of.ensures)
    (prepared_whole m c.args.transaction.now c.args.planned.now p c.in-Ok.field-0 new f)

pub returns-then-refusal-len-clause-done : goal.returns-then-refusal-len-clause-done
returns-then-refusal-len-clause-done g c a p =
    let m = g.E.Events.machine c.args.engine.now in
    let new = g.E.Events.machine c.feed.new.self in
    let f = subst (λ (b : List ℕ). Feeds m b (feed_refusal m) (Err c.in-Err.refusal) new) c.deref.ensures.value (c.in-Err.ensures.feeds a) in
    let past : length c.args.transaction.now.sets.items < c.in-Err.refusal.records = omega (arith, c.if-refusal-len.true) in
    subst (λ (w : Written). IsInLog m c.args.transaction.now w new) (sym c.told_of-then-refusal-len.ensures)
    (fed_commit m c.args.transaction.now c.args.planned.now p c.in-Err.refusal new f past)

pub returns-then-refusal-len-clause-prepared : goal.returns-then-refusal-len-clause-prepared
returns-then-refusal-len-clause-prepared g c a p =
    let m = g.E.Events.machine c.args.engine.now in
    let new = g.E.Events.machine c.feed.new.self in
    let f = subst (λ (b : List ℕ). Feeds m b (feed_refusal m) (Err c.in-Err.refusal) new) c.deref.ensures.value (c.in-Err.ensures.feeds a) in
    let past : length c.args.transaction.now.sets.items < c.in-Err.refusal.records = omega (arith, c.if-refusal-len.true) in
    subst (λ (w : Written). IsPrepared m c.args.transaction.now w new) (sym c.told_of-then-refusal-len.ensures)
    (prepared_past m c.args.transaction.now c.args.planned.now p c.in-Err.refusal new f past)

pub returns-else-refusal-len-clause-refused : goal.returns-else-refusal-len-clause-refused
returns-else-refusal-len-clause-refused g c a by p =
    let m = g.E.Events.machine c.args.engine.now in
    let new = g.E.Events.machine c.feed.new.self in
    let f = subst (λ (b : List ℕ). Feeds m b (feed_refusal m) (Err c.in-Err.refusal) new) c.deref.ensures.value (c.in-Err.ensures.feeds a) in
    let within : c.in-Err.refusal.records ≤ length c.args.transaction.now.sets.items = omega (arith, c.if-refusal-len.false) in
    fed_refused m by c.args.transaction.now c.args.planned.now p c.in-Err.refusal new _ f within
    (λ e. ltb-true 0 c.in-Err.refusal.records e) (λ e. let z = ltb-false 0 c.in-Err.refusal.records e in omega arith)

pub returns-in_default : goal.returns-in_default
returns-in_default g c = record {
  done = tt;
  prepared = tt;
  refused = λ a by p.
      let m = g.E.Events.machine c.args.engine.now in
      let new = g.E.Events.machine c.feed.new.self in
      let f = subst (λ (b : List ℕ). Feeds m b (feed_refusal m) (Err c.in-Err.refusal) new) c.deref.ensures.value (c.in-Err.ensures.feeds a) in
      c.in_default.not-Memory (fed_memory m by c.args.transaction.now c.args.planned.now p c.in-Err.refusal new f);
  keeps = c.in-Err.ensures.keeps;
  book = c.in-Err.ensures.book;
}
