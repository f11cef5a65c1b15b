use Rattle.std.proofs.Common.{refl, sym, inl, inr, ◌∙◌}
use Rattle.std.proofs.lemmas.Bool.{false≢true}
use Rattle.als_ckpt.proofs.codec.spells.Goals as goal

pub returns-then-is_block : goal.returns-then-is_block
returns-then-is_block c = (λ h. inl (c.is_block.ensures.0 c.if-is_block.true), λ spelled. refl)

pub returns-then-not-is_version_1_block : goal.returns-then-not-is_version_1_block
returns-then-not-is_version_1_block c = (
  λ h. absurd (false≢true h),
  λ spelled.
      elim spelled [
        | inl is ↦ absurd (false≢true (sym c.if-is_block.false ∙ c.is_block.ensures.1 is))
        | inr (is, implied) ↦ absurd (false≢true (sym c.if-not-is_version_1_block.true ∙ c.is_version_1_block.ensures.1 is))
      ],
)

pub returns : goal.returns
returns c = (
  λ h. inr (c.is_version_1_block.ensures.0 c.if-not-is_version_1_block.false, c.is.ensures.0 h ∙ c.implied_history.ensures),
  λ spelled.
      elim spelled [
        | inl is ↦ absurd (false≢true (sym c.if-is_block.false ∙ c.is_block.ensures.1 is))
        | inr (is, implied) ↦ c.is.ensures.1 (implied ∙ sym c.implied_history.ensures)
      ],
)
