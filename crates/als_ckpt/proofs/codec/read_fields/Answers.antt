use Rattle.std.proofs.Common.{◌≡◌, ℕ, Some, None, ap, ap₂, sym, ◌∙◌, inl, inr}
use Rattle.als_ckpt.specs.declared.phase.Phase.{Phase}
use Rattle.als_ckpt.specs.Control.{implied_history}
use Rattle.als_ckpt.proofs.BlockLaws.{Spells-fields, state_of_fields}
use Rattle.als_ckpt.proofs.codec.read_fields.Goals as goal

pub returns-in_err-phase : goal.returns-in_err-phase
returns-in_err-phase c pages log_bytes s small fits is =
    let fields = Spells-fields log_bytes pages s c.args.block.now small fits is in
    let found : c.phase_of_byte.result ≡ Some s.phase = c.phase_of_byte.ensures.only s.phase fields.phase in
    let none : c.phase_of_byte.result ≡ None = c.in_err-phase.was in
    absurd (cc (found, none))

pub returns-in_err-published : goal.returns-in_err-published
returns-in_err-published c pages log_bytes s small fits is =
    let fields = Spells-fields log_bytes pages s c.args.block.now small fits is in
    let found : c.region_of_byte.result ≡ Some s.published = c.region_of_byte.ensures.only s.published fields.region in
    let none : c.region_of_byte.result ≡ None = c.in_err-published.was in
    absurd (cc (found, none))

pub returns-in_err-history : goal.returns-in_err-history
returns-in_err-history c pages log_bytes s small fits is =
    let fields = Spells-fields log_bytes pages s c.args.block.now small fits is in
    let phase_found : Some c.in_ok-phase.phase ≡ Some s.phase = c.in_ok-phase.ensures.only s.phase fields.phase in
    let seal : c.number_at.result ≡ s.seal.0 = c.number_at.ensures ∙ fields.seal in
    let none : c.read_history.result ≡ None = c.in_err-history.was in
    elim is [
      | inl now ↦ let found : c.read_history.result ≡ Some s.history = c.read_history.ensures.now pages s fits.history now in absurd (cc (found, none))
      | inr (before, implied) ↦ let found : c.read_history.result ≡ Some (implied_history c.in_ok-phase.phase c.number_at.result) = c.read_history.ensures.before pages s before in absurd (cc (found, none))
    ]

pub returns : goal.returns
returns c pages log_bytes s small fits is =
    let fields = Spells-fields log_bytes pages s c.args.block.now small fits is in
    let phase_found : Some c.in_ok-phase.phase ≡ Some s.phase = c.in_ok-phase.ensures.only s.phase fields.phase in
    let region_found : Some c.in_ok-published.published ≡ Some s.published = c.in_ok-published.ensures.only s.published fields.region in
    let phase : c.in_ok-phase.phase ≡ s.phase = cc phase_found in
    let seal : c.number_at.result ≡ s.seal.0 = c.number_at.ensures ∙ fields.seal in
    let history : Some c.in_ok-history.history ≡ Some s.history =
    elim is [
      | inl now ↦ c.in_ok-history.ensures.now pages s fits.history now
      | inr (before, implied) ↦
          c.in_ok-history.ensures.before pages s before
          ∙ ap₂ (λ (p : Phase) (x : ℕ). Some (implied_history p x)) phase seal ∙ ap Some (sym implied)
    ] in
    ap Some (state_of_fields s c.in_ok-phase.phase c.in_ok-published.published c.number_at-2.result c.number_at-3.result c.number_at.result c.in_ok-history.history
    phase (cc region_found) (c.number_at-2.ensures ∙ fields.mark) (c.number_at-3.ensures ∙ fields.position) seal (cc history))
