use Rattle.std.proofs.Common.{sym, subst, ◌∙◌, ap, arith}
use Rattle.std.specs.Prelude.{ℕ, List}
use Rattle.als_share.specs.Ledgers.{Parted, AreNew}
use Rattle.als_share.proofs.Shares.{new-more}
use Rattle.als_share.proofs.shared.share.Goals as goal

pub loop-preserved : goal.loop-preserved
loop-preserved g c =
    let i = c.loop.invariant in
    let p = c.push_reserved.ensures in (
      omega (arith, i.0, c.split.ensures.left),
      c.split.ensures.same ∙ i.1,
      omega (arith, i.2, p.len),
      omega (arith, i.3, p.capacity),
      subst AreNew (sym p.items) (new-more c.loop.shares.items c.split.result.tally i.4 (ap (λ (p : Parted). p.tally) c.split.ensures.one)),
    )

pub returns-clause-shares : goal.returns-clause-shares
returns-clause-shares g c =
    let i = c.loop.invariant in
    let p = c.push_reserved-2.ensures in
    (omega (arith, i.2, p.len, c.loop.auto.counter, c.loop-test.false), subst AreNew (sym p.items) (new-more c.loop.shares.items c.loop.rest.tally i.4 i.1))
