use Rattle.std.proofs.Common.{◌∙◌}
use Rattle.als_backup.proofs.Texts.{held_handed}
use Rattle.als_backup.proofs.judging.judge_whole.Goals as goal

pub loop-preserved : goal.loop-preserved
loop-preserved c =
    let h = held_handed _ _ _ _ c.loop.judge c.hand_to.new.self c.in-Ok-true.field-0 c.in-Ok-true.ensures.ok in
    record { text = h.0 ∙ c.loop.invariant.text; pages = h.1 ∙ c.loop.invariant.pages; valid = λ v. c.hand_to.ensures.valid }
