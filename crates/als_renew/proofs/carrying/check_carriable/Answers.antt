use Rattle.std.proofs.Common.{◌≡◌, ◌<◌, inl, inr, refl, subst, arith}
use Rattle.std.specs.Prelude.{All}
use Rattle.std.proofs.lemmas.List.{take_all}
use Rattle.std.proofs.lemmas.List.Elements.{All-more}
use Rattle.als_lookback.specs.Doubts.{Doubt}
use Rattle.als_renew.proofs.Doubting.{All-recursive}
use Rattle.als_renew.proofs.carrying.check_carriable.Goals as goal

pub loop-i-init : goal.loop-i-init
loop-i-init c = record { few = omega arith; above = λ k d lt. absurd (omega arith) }

pub loop-i-preserved : goal.loop-i-preserved
loop-i-preserved c = record {
  few = omega (arith, c.if-i-ge-TRANSACTION_LIMIT.false);
  above = All-more (λ (d : Doubt). c.args.pages < d.trans) c.args.doubts.now c.loop-i.i c.index-doubts-i.result c.loop-i-test.true c.loop-i.invariant.above
      (subst (λ (d : Doubt). c.args.pages < d.trans) c.index-doubts-i.is (omega (arith, c.trans-trans.ensures, c.if-trans-pages.false)));
}

pub returns-then-trans-pages-clause-err : goal.returns-then-trans-pages-clause-err
returns-then-trans-pages-clause-err c = (
  c.trans-trans.result,
  refl,
  record {
    i = c.loop-i.i;
    d = c.index-doubts-i.result;
    within = c.loop-i-test.true;
    at = c.index-doubts-i.is;
    is = c.trans-trans.ensures;
    cause = inl (omega (arith, c.if-trans-pages.true));
  },
)

pub returns-then-i-ge-TRANSACTION_LIMIT-clause-err : goal.returns-then-i-ge-TRANSACTION_LIMIT-clause-err
returns-then-i-ge-TRANSACTION_LIMIT-clause-err c = (
  c.trans-trans.result,
  refl,
  record {
    i = c.loop-i.i;
    d = c.index-doubts-i.result;
    within = c.loop-i-test.true;
    at = c.index-doubts-i.is;
    is = c.trans-trans.ensures;
    cause = inr (omega (arith, c.if-i-ge-TRANSACTION_LIMIT.true, c.loop-i-test.true));
  },
)

pub returns-clause-ok : goal.returns-clause-ok
returns-clause-ok c = record {
  above = All-recursive (λ (d : Doubt). c.args.pages < d.trans) c.args.doubts.now (subst (All (λ (d : Doubt). c.args.pages < d.trans)) (take_all c.loop-i.i c.args.doubts.now c.loop-i-test.false) c.loop-i.invariant.above);
  few = omega (arith, c.loop-i-test.false, c.loop-i.invariant.few);
}
