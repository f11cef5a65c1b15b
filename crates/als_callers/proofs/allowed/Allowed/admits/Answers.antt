use Rattle.std.proofs.Common.{◌≡◌, [], List, length, subst, sym, ap, inr, ⊎_elim, arith}
use Rattle.std.proofs.lemmas.Grind.{common_steps}
use Rattle.als_callers.specs.declared.block.Block.{Block}
use Rattle.als_callers.specs.Members.{OneHas}
use Rattle.als_callers.proofs.allowed.Allowed.admits.Goals as goal

pub returns-else-is_empty : goal.returns-else-is_empty
returns-else-is_empty c =
    let blocks = c.args.self.now.blocks.items in
    let peer = c.args.peer in
    let same : c.as_slice-blocks.result.now ≡ blocks = c.as_slice-blocks.ensures.value in
    let some : blocks ≡ [] → ⊥ = λ empty. let none : length blocks ≡ 0 = ap length empty in
    let equal : length c.as_slice-blocks.result.now ≡ length blocks = ap length same in grind (arith, common_steps) in (
      (λ yes. inr (subst (λ (l : List Block). OneHas l peer) same (c.has_any.ensures.0 yes))),
      λ may. ⊎_elim (λ empty. absurd (some empty)) (λ one. c.has_any.ensures.1 (subst (λ (l : List Block). OneHas l peer) (sym same) one)) may,
    )
