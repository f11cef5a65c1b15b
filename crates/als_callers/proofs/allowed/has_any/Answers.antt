use Rattle.std.proofs.Common.{◌≡◌, ◌∙◌, Bool, true, false, get_or, subst, sym, refl, below_more, rules}
use Rattle.std.proofs.lemmas.List.{get_or_default}
use Rattle.als_callers.specs.declared.block.Block.{Block}
use Rattle.als_callers.specs.Members.{Has}
use Rattle.als_callers.proofs.allowed.has_any.Goals as goal

pub returns-then-has : goal.returns-then-has
returns-then-has c = (
  (λ yes. (c.block-item.result, (c.loop-block.block-index, c.loop-block-test.true, sym c.block-item.is), c.has.ensures.0 c.if-has.true)),
  λ one. refl,
)

pub loop-block-preserved : goal.loop-block-preserved
loop-block-preserved c =
    let blocks = c.args.blocks.now in
    let at = c.loop-block.block-index in
    let here = c.block-item.result in
    let lacks : Has here c.args.peer → ⊥ = λ h. absurd_of c.has.result c.if-has.false (c.has.ensures.1 h) in
    below_more _ _ c.loop-block.invariant
    (λ d. let same : here ≡ get_or blocks at d = c.block-item.is ∙ get_or_default blocks at here d c.loop-block-test.true in
    subst (λ (b : Block). Has b c.args.peer → ⊥) same lacks)
  where
    absurd_of : (b : Bool) → b ≡ false → b ≡ true → ⊥
    absurd_of b f t = cc

pub returns : goal.returns
returns c = (
  (λ no. (cc)),
  λ one. absurd (c.loop-block.invariant one.1.0 (search rules) one.0 (subst (λ (b : Block). Has b c.args.peer) (sym one.1.2) one.2)),
)
