use Rattle.std.proofs.Common.{sym, ap, ◌∙◌, arith}
use Rattle.std.proofs.lemmas.List.{get_or_default}
use Rattle.als_takeover.specs.Next.{is_over}
use Rattle.als_analysis.specs.Open.{fresh_open}
use Rattle.als_store.proofs.TailOwnLaws.{none-over, first-over}
use Rattle.als_store.proofs.store.tail_own.first_done.Goals as goal

pub returns-then-is_done : goal.returns-then-is_done
returns-then-is_done c =
    let rows = c.args.rows.now in
    let at = c.loop-at.at in
    record { found = first-over rows at c.loop-at-test.true c.loop-at.invariant.none (λ d. ap is_over (get_or_default rows at d (fresh_open 0) c.loop-at-test.true) ∙ sym c.if-is_done.ensures) }

pub returns : goal.returns
returns c = record { found = none-over c.args.rows.now (λ d k lt. c.loop-at.invariant.none d k (omega (arith, lt, c.loop-at-test.false))) }
