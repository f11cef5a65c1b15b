use Rattle.std.proofs.Common.{◌∙◌}
use Rattle.std.proofs.lemmas.Bool.{true≢false}
use Rattle.als_share.proofs.Booked.{booked_taken}
use Rattle.als_share.proofs.Floors.{stays_low}
use Rattle.als_share.proofs.Following.{counts_feed}
use Rattle.als_share.proofs.Going as going
use Rattle.als_share.proofs.locked.Locked.feed.Goals as goal

pub invariant_of-self : goal.invariant_of-self
invariant_of-self g c = (
  booked_taken c.feed-answer.result _ _ _ _ c.self.invariant.0 c.note_taken.ensures.all c.feed-answer.ensures.told,
  (λ alone.
      going.feed g.L.Ledgers.takes_over g.L.Ledgers.start _ _ c.args.piece c.feed-answer.result
      (record { driven = c.self.invariant.1 alone; keeps = c.feed-answer.ensures.keeps alone; stands = c.stands.ensures alone })
      (c.feed-answer.ensures.feeds alone)),
  c.feed-answer.ensures.book ∙ c.self.invariant.2,
  (λ alone. stays_low _ _ _ (c.self.invariant.3 alone) (c.feed-answer.ensures.keeps alone)),
  c.self.invariant.4,
  (λ clean. absurd (true≢false clean)),
  (λ none. counts_feed c.feed-answer.result _ _ c.feed-answer.ensures.told (c.self.invariant.6 none)),
)
