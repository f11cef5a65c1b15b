use Rattle.std.proofs.Common.{◌∙◌, refl}
use Rattle.std.proofs.lemmas.Bool.{true≢false}
use Rattle.als_engine.specs.declared.event.Event.TheVariants as event
use Rattle.als_share.proofs.Booked.{booked}
use Rattle.als_share.proofs.Floors.{stays_low}
use Rattle.als_share.proofs.Following.{counts_event}
use Rattle.als_share.proofs.Going as going
use Rattle.als_share.proofs.locked.Locked.log_write.Goals as goal

pub invariant_of-self : goal.invariant_of-self
invariant_of-self g c = (
  booked event.LogWrite c.log_write-answer.result _ _ _ _ c.self.invariant.0 c.note.ensures.all c.log_write-answer.ensures.told,
  (λ alone.
      going.log_write g.L.Ledgers.takes_over g.L.Ledgers.start _ _ c.log_write-answer.result
      (record { driven = c.self.invariant.1 alone; keeps = c.log_write-answer.ensures.keeps alone; stands = c.stands.ensures alone })
      (c.log_write-answer.ensures.writes alone)),
  c.log_write-answer.ensures.book ∙ c.self.invariant.2,
  (λ alone. stays_low _ _ _ (c.self.invariant.3 alone) (c.log_write-answer.ensures.keeps alone)),
  c.self.invariant.4,
  (λ clean. absurd (true≢false clean)),
  (λ none. counts_event event.LogWrite c.log_write-answer.result _ _ refl c.log_write-answer.ensures.told (c.self.invariant.6 none)),
)
