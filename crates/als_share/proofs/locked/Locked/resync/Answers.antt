use Rattle.std.proofs.Common.{◌∙◌, refl}
use Rattle.std.proofs.lemmas.Bool.{true≢false}
use Rattle.als_engine.specs.declared.event.Event.TheVariants as event
use Rattle.als_share.proofs.Booked.{booked}
use Rattle.als_share.proofs.Floors.{stays_low}
use Rattle.als_share.proofs.Following.{counts_event}
use Rattle.als_share.proofs.Going as going
use Rattle.als_share.proofs.locked.Locked.resync.Goals as goal

pub invariant_of-self : goal.invariant_of-self
invariant_of-self g c = (
  booked event.Resync c.resync-answer.result _ _ _ _ c.self.invariant.0 c.note.ensures.all c.resync-answer.ensures.told,
  (λ alone.
      going.resync g.L.Ledgers.takes_over g.L.Ledgers.start _ _ c.resync-answer.result
      (record { driven = c.self.invariant.1 alone; keeps = c.resync-answer.ensures.keeps alone; stands = c.stands.ensures alone })
      (c.resync-answer.ensures.resyncs alone)),
  c.resync-answer.ensures.book ∙ c.self.invariant.2,
  (λ alone. stays_low _ _ _ (c.self.invariant.3 alone) (c.resync-answer.ensures.keeps alone)),
  c.self.invariant.4,
  (λ clean. absurd (true≢false clean)),
  (λ none. counts_event event.Resync c.resync-answer.result _ _ refl c.resync-answer.ensures.told (c.self.invariant.6 none)),
)
