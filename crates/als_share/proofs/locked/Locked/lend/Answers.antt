use Rattle.std.proofs.Common.{◌∙◌, refl}
use Rattle.std.proofs.lemmas.Bool.{true≢false}
use Rattle.als_engine.specs.declared.event.Event.TheVariants as event
use Rattle.als_share.proofs.Booked.{booked}
use Rattle.als_share.proofs.Floors.{stays_low}
use Rattle.als_share.proofs.Following.{counts_event}
use Rattle.als_share.proofs.Going as going
use Rattle.als_share.proofs.locked.Locked.lend.Goals as goal

pub invariant_of-self : goal.invariant_of-self
invariant_of-self g c = (
  booked event.Lend c.lend-answer.result _ _ _ _ c.self.invariant.0 c.note.ensures.all c.lend-answer.ensures.told,
  (λ alone.
      going.lend g.L.Ledgers.takes_over g.L.Ledgers.start _ _ c.args.page c.lend-answer.result
      (record { driven = c.self.invariant.1 alone; keeps = c.lend-answer.ensures.keeps alone; stands = c.stands.ensures alone })
      (c.lend-answer.ensures.lends alone)),
  c.lend-answer.ensures.book ∙ c.self.invariant.2,
  (λ alone. stays_low _ _ _ (c.self.invariant.3 alone) (c.lend-answer.ensures.keeps alone)),
  c.self.invariant.4,
  (λ clean. absurd (true≢false clean)),
  (λ none. counts_event event.Lend c.lend-answer.result _ _ refl c.lend-answer.ensures.told (c.self.invariant.6 none)),
)
