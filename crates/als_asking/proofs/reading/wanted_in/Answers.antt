use Rattle.std.proofs.Common.{ℕ, ◌∷◌, sym, ap, ◌∙◌}
use Rattle.als_asking.proofs.BodyLaws.{asks_ok}
use Rattle.als_asking.proofs.reading.wanted_in.Goals as goal

pub returns-in-Some : goal.returns-in-Some
returns-in-Some c = record {
  asks = asks_ok c.args.body.now c.in-Some.rest.now c.each.result
      (sym c.skipped.ensures ∙ c.in-Some.ensures.cases.0 ∙ ap (λ (x : ℕ). x ∷ c.in-Some.rest.now) c.if-first-eq91.true) c.each.ensures.asks;
}
