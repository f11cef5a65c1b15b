use Rattle.std.proofs.Common.{◌∙◌, sym}
use Rattle.std.proofs.lemmas.Bool.{true≢false}
use Rattle.als_engine.specs.declared.event.Event.TheVariants as event
use Rattle.als_share.proofs.Booked.{booked}
use Rattle.als_share.proofs.Floors.{stays_low}
use Rattle.als_share.proofs.Going as going
use Rattle.als_share.proofs.locked.Locked.finish.Goals as goal

pub invariant_of-self : goal.invariant_of-self
invariant_of-self g c =
    let may = c.refuses_takeover.ensures c.if-refuses_takeover.false in (
      booked event.Finish c.finish-answer.result _ _ _ _ c.self.invariant.0 c.note.ensures.all c.finish-answer.ensures.told,
      (λ alone.
          going.finish g.L.Ledgers.takes_over g.L.Ledgers.start _ _ c.finish-answer.result may
          (record { driven = c.self.invariant.1 alone; keeps = c.finish-answer.ensures.keeps alone; stands = c.stands.ensures alone })
          (c.finish-answer.ensures.finishes alone)),
      c.finish-answer.ensures.book ∙ c.self.invariant.2,
      (λ alone. stays_low _ _ _ (c.self.invariant.3 alone) (c.finish-answer.ensures.keeps alone)),
      c.self.invariant.4,
      (λ clean. absurd (true≢false clean)),
      (λ none. absurd (true≢false (sym may ∙ none))),
    )
