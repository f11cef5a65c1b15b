use Rattle.std.proofs.Common.{◌∙◌, refl}
use Rattle.std.proofs.lemmas.Bool.{true≢false}
use Rattle.als_engine.specs.declared.event.Event.TheVariants as event
use Rattle.als_share.proofs.Booked.{booked}
use Rattle.als_share.proofs.Floors.{stays_low}
use Rattle.als_share.proofs.Following.{counts_event}
use Rattle.als_share.proofs.Going as going
use Rattle.als_share.proofs.locked.Locked.ctl_sync.Goals as goal

pub invariant_of-self : goal.invariant_of-self
invariant_of-self g c = (
  booked event.ControlSync c.ctl_sync-answer.result _ _ _ _ c.self.invariant.0 c.note.ensures.all c.ctl_sync-answer.ensures.told,
  (λ alone.
      going.ctl_sync g.L.Ledgers.takes_over g.L.Ledgers.start _ _ c.ctl_sync-answer.result
      (record { driven = c.self.invariant.1 alone; keeps = c.ctl_sync-answer.ensures.keeps alone; stands = c.stands.ensures alone })
      (c.ctl_sync-answer.ensures.syncs alone)),
  c.ctl_sync-answer.ensures.book ∙ c.self.invariant.2,
  (λ alone. stays_low _ _ _ (c.self.invariant.3 alone) (c.ctl_sync-answer.ensures.keeps alone)),
  c.self.invariant.4,
  (λ clean. absurd (true≢false clean)),
  (λ none. counts_event event.ControlSync c.ctl_sync-answer.result _ _ refl c.ctl_sync-answer.ensures.told (c.self.invariant.6 none)),
)
