use Rattle.std.proofs.Common.{◌≡◌, ℕ, length, subst, arith}
use Rattle.als_record.specs.Transactions.{unended}
use Rattle.als_store.specs.TailOwn.{IsBest}
use Rattle.als_store.proofs.store.tail_own.first_undone.Goals as goal

pub loop-at-preserved : goal.loop-at-preserved
loop-at-preserved c = record {
  before = c.better-best.ensures.within;
  best = λ pages log judged same. c.better-best.ensures.best pages log judged same (c.loop-at.invariant.best pages log judged same);
}

pub returns-clause-best : goal.returns-clause-best
returns-clause-best c pages log judged same =
    let all : c.loop-at.at ≡ length c.args.rows.now = omega (arith, c.loop-at.auto.at-end, c.loop-at-test.false) in
    subst (λ (n : ℕ). IsBest log (unended log) n c.loop-at.best) all (c.loop-at.invariant.best pages log judged same)
