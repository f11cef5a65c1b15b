use Rattle.std.proofs.Common.{◌∙◌, sym}
use Rattle.std.proofs.lemmas.Bool.{true≢false}
use Rattle.als_share.proofs.Floors.{stays_low}
use Rattle.als_share.proofs.Following.{counts_same}
use Rattle.als_share.proofs.Going as going
use Rattle.als_share.proofs.locked.Locked.record_at.Goals as goal

pub invariant_of-self : goal.invariant_of-self
invariant_of-self g c = (
  c.self.invariant.0 ∙ sym c.record_at-answer.ensures.told,
  (λ alone.
      going.record_at g.L.Ledgers.takes_over g.L.Ledgers.start _ _ c.args.lsn c.record_at-answer.result
      (record { driven = c.self.invariant.1 alone; keeps = c.record_at-answer.ensures.keeps alone; stands = c.stands.ensures alone })
      (c.record_at-answer.ensures.reads alone)),
  c.record_at-answer.ensures.book ∙ c.self.invariant.2,
  (λ alone. stays_low _ _ _ (c.self.invariant.3 alone) (c.record_at-answer.ensures.keeps alone)),
  c.self.invariant.4,
  (λ clean. absurd (true≢false clean)),
  (λ none. counts_same _ _ c.record_at-answer.ensures.told (c.self.invariant.6 none)),
)
