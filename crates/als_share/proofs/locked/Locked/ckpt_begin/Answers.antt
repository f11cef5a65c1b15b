use Rattle.std.proofs.Common.{◌∙◌, refl}
use Rattle.std.proofs.lemmas.Bool.{true≢false}
use Rattle.als_engine.specs.declared.event.Event.TheVariants as event
use Rattle.als_share.proofs.Booked.{booked}
use Rattle.als_share.proofs.Floors.{stays_low}
use Rattle.als_share.proofs.Following.{counts_event}
use Rattle.als_share.proofs.Going as going
use Rattle.als_share.proofs.locked.Locked.ckpt_begin.Goals as goal

pub invariant_of-self : goal.invariant_of-self
invariant_of-self g c = (
  booked event.CkptBegin c.ckpt_begin-answer.result _ _ _ _ c.self.invariant.0 c.note.ensures.all c.ckpt_begin-answer.ensures.told,
  (λ alone.
      going.ckpt_begin g.L.Ledgers.takes_over g.L.Ledgers.start _ _ c.ckpt_begin-answer.result
      (record { driven = c.self.invariant.1 alone; keeps = c.ckpt_begin-answer.ensures.keeps alone; stands = c.stands.ensures alone })
      (c.ckpt_begin-answer.ensures.begins alone)),
  c.ckpt_begin-answer.ensures.book ∙ c.self.invariant.2,
  (λ alone. stays_low _ _ _ (c.self.invariant.3 alone) (c.ckpt_begin-answer.ensures.keeps alone)),
  c.self.invariant.4,
  (λ clean. absurd (true≢false clean)),
  (λ none. counts_event event.CkptBegin c.ckpt_begin-answer.result _ _ refl c.ckpt_begin-answer.ensures.told (c.self.invariant.6 none)),
)
