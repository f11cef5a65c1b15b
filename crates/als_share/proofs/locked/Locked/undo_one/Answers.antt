use Rattle.std.proofs.Common.{◌∙◌, sym}
use Rattle.std.proofs.lemmas.Bool.{true≢false}
use Rattle.als_engine.specs.declared.event.Event.TheVariants as event
use Rattle.als_share.proofs.Booked.{booked}
use Rattle.als_share.proofs.Floors.{stays_low}
use Rattle.als_share.proofs.Going as going
use Rattle.als_share.proofs.locked.Locked.undo_one.Goals as goal

pub invariant_of-self : goal.invariant_of-self
invariant_of-self g c =
    let may = c.refuses_takeover.ensures c.if-refuses_takeover.false in (
      booked event.UndoOne c.undo_one-answer.result _ _ _ _ c.self.invariant.0 c.note.ensures.all c.undo_one-answer.ensures.told,
      (λ alone.
          going.undo_one g.L.Ledgers.takes_over g.L.Ledgers.start _ _ c.undo_one-answer.result may
          (record { driven = c.self.invariant.1 alone; keeps = c.undo_one-answer.ensures.keeps alone; stands = c.stands.ensures alone })
          (c.undo_one-answer.ensures.undoes alone)),
      c.undo_one-answer.ensures.book ∙ c.self.invariant.2,
      (λ alone. stays_low _ _ _ (c.self.invariant.3 alone) (c.undo_one-answer.ensures.keeps alone)),
      c.self.invariant.4,
      (λ clean. absurd (true≢false clean)),
      (λ none. absurd (true≢false (sym may ∙ none))),
    )
