use Rattle.std.proofs.Common.{subst, sym}
use Rattle.als_ckpt.specs.Control.{Controlled, IsBeginning}
use Rattle.als_ckpt.proofs.KeepingLaws.{IsKeeping-begun}
use Rattle.als_ckpt.proofs.control.Control.begin.Goals as goal

pub invariant_of-self : goal.invariant_of-self
invariant_of-self g c =
    let free = c.is_busy.ensures.free c.if-is_busy.false in
    let beginning = subst (λ (v : Controlled). IsBeginning v.pages c.args.checkpoint) (sym c.self.view_is) c.requires in
    IsKeeping-begun _ _ _ _ _ _ _ _ _ _ c.self.inside.begun _ c.args.checkpoint _ c.self.invariant free.0 free.1 c.next-region.ensures c.in_ok-begun.ensures.ok c.forget.ensures c.in_ok-begun.ensures.few beginning
