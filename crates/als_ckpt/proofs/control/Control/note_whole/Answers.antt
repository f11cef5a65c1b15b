use Rattle.std.proofs.Common.{sym, subst, ◌∙◌, IsSomeAnd}
use Rattle.als_ckpt.specs.Control.{Controlled}
use Rattle.als_ckpt.specs.Regions.{IsWhole}
use Rattle.als_ckpt.proofs.KeepingLaws.{IsKeeping-whole}
use Rattle.als_ckpt.proofs.control.Control.note_whole.Goals as goal

pub invariant_of-self : goal.invariant_of-self
invariant_of-self g c =
    let whole = subst (λ (v : Controlled). IsSomeAnd v.begun IsWhole) (sym c.self.view_is) c.requires in
    IsKeeping-whole _ _ _ _ _ _ _ _ _ _ c.self.inside.begun _ c.in-Some.begun _ _ c.self.invariant (sym c.take.ensures.value ∙ c.in-Some.is) c.take.ensures.after whole
    c.into_whole-region.ensures.region c.into_whole-region.ensures.checkpoint c.hold.ensures
