use Rattle.std.proofs.Common.{◌≡◌, [], ◌∷◌, ◌++◌}
use Rattle.std.proofs.lemmas.Result.{err_from_is_err_and}
use Rattle.std.proofs.Common.{◌+◌, List, sym, subst, arith}
use Rattle.als_record.specs.Spelling.{Image}
use Rattle.als_record.specs.Commits.{Write}
use Rattle.als_record.specs.Spelling.{IsKey}
use Rattle.als_writer.specs.Asking.{IsFreeNow}
use Rattle.als_writer.specs.Refused.{KeyRefused}
use Rattle.als_writer.proofs.Looking.{look_known}
use Rattle.als_writer.proofs.Below.{FreeBelow, FreeBelow-none, FreeBelow-more, FreeBelow-all}
use Rattle.als_writer.proofs.asking.befores_of.Goals as goal

pub loop-set-init : goal.loop-set-init
loop-set-init g c = record {
  count = c.in-Ok.ensures.len;
  room = omega (arith, c.in-Ok.ensures.capacity);
  below = λ a. FreeBelow-none (g.E.Events.machine c.args.engine.now) c.args.sets.now c.in-Ok.befores.items;
}

pub loop-set-preserved : goal.loop-set-preserved
loop-set-preserved g c = record {
  count = omega (arith, c.push_reserved.ensures.len, c.loop-set.invariant.count);
  room = omega (arith, c.push_reserved.ensures.capacity, c.loop-set.invariant.room);
  below = λ a.
      let m = g.E.Events.machine c.args.engine.now in
      let free : IsFreeNow m c.set-item.result.key c.in_ok-now.now = subst (λ (w : Write). IsFreeNow m w.key c.in_ok-now.now) c.set.view_is (c.in_ok-now.ensures.now a) in
      let pushed : c.push_reserved.new.self.items ≡ c.loop-set.befores.items ++ c.in_ok-now.now ∷ [] = c.push_reserved.ensures.items in
      subst (λ (bs : List Image). FreeBelow m c.args.sets.now bs (c.loop-set.set-index + 1)) (sym pushed)
      (FreeBelow-more m c.args.sets.now c.loop-set.befores.items c.loop-set.set-index c.set-item.result c.in_ok-now.now c.loop-set-test.true
      (omega (arith, c.loop-set.invariant.count)) c.set-item.is (c.loop-set.invariant.below a) free);
}

pub returns-clause-now : goal.returns-clause-now
returns-clause-now g c a = FreeBelow-all (g.E.Events.machine c.args.engine.now) c.args.sets.now c.loop-set.befores.items c.loop-set.set-index c.loop-set-test.false (c.loop-set.invariant.below a)

pub returns-in_err-now-clause-refused : goal.returns-in_err-now-clause-refused
returns-in_err-now-clause-refused g c =
    let p = err_from_is_err_and c.from_residual.result c.from_residual.ensures.1 in
    rw (p.1, p.2) (λ a keys.
    let m = g.E.Events.machine c.args.engine.now in
    let is : IsKey m.held.pages c.set-item.result.key = subst (λ (w : Write). IsKey m.held.pages w.key) (sym c.set-item.is) (keys c.loop-set.set-index c.set-item.result c.loop-set-test.true) in
    look_known m c.set-item.result.key c.in_err-now.field-0.0 (subst (λ (w : Write). KeyRefused m w.key c.in_err-now.field-0.0) c.set.view_is (c.in_err-now.ensures.refused a)) is)
