use Rattle.std.proofs.Common.{◌∙◌, sym}
use Rattle.std.proofs.lemmas.Bool.{true≢false}
use Rattle.als_share.proofs.Floors.{stays_low}
use Rattle.als_share.proofs.Following.{counts_same}
use Rattle.als_share.proofs.Going as going
use Rattle.als_share.proofs.locked.Locked.page_now.Goals as goal

pub invariant_of-self : goal.invariant_of-self
invariant_of-self g c = (
  c.self.invariant.0 ∙ sym c.page_now-answer.ensures.told,
  (λ alone.
      going.page_now g.L.Ledgers.takes_over g.L.Ledgers.start _ _ c.args.page c.page_now-answer.result
      (record { driven = c.self.invariant.1 alone; keeps = c.page_now-answer.ensures.keeps alone; stands = c.stands.ensures alone })
      (c.page_now-answer.ensures.shows alone)),
  c.page_now-answer.ensures.book ∙ c.self.invariant.2,
  (λ alone. stays_low _ _ _ (c.self.invariant.3 alone) (c.page_now-answer.ensures.keeps alone)),
  c.self.invariant.4,
  (λ clean. absurd (true≢false clean)),
  (λ none. counts_same _ _ c.page_now-answer.ensures.told (c.self.invariant.6 none)),
)
