use Rattle.std.proofs.Common.{ap, ◌∙◌}
use Rattle.als_ckpt.specs.Control.{Controlled, newest}
use Rattle.als_ckpt.proofs.KeepingLaws.{publishing-fits, Continues-whole}
use Rattle.als_ckpt.proofs.control.Control.publish.Goals as goal

pub write-requires-clause-fits : goal.write-requires-clause-fits
write-requires-clause-fits g c =
    publishing-fits c.args.self.now c.note_whole.new.self c.self.inside.begun c.self.inside.last c.in_ok-region.region c.in_ok-region.position c.acknowledged.result
    c.acknowledged.ensures.facts (ap (λ (v : Controlled). v.begun) c.self.view_is) (c.self.invariant.states.last ∙ ap newest c.self.view_is) c.acknowledged.ensures.mark
    c.in_ok-region.ensures.ok c.note_whole.ensures

pub write-requires-clause-grows : goal.write-requires-clause-grows
write-requires-clause-grows g c =
    Continues-whole c.args.self.now c.note_whole.new.self c.args.self.now.begun c.self.inside.last c.in_ok-region.region c.in_ok-region.position (c.self.invariant.states.last ∙ ap newest c.self.view_is) c.note_whole.ensures
