use Rattle.std.proofs.Common.{◌≡◌, Some, None, sym, ◌∙◌, subst}
use Rattle.std.proofs.lemmas.Bool.{false≢true}
use Rattle.als_ckpt.specs.declared.control_state.ControlState.{ControlState}
use Rattle.als_ckpt.specs.Control.{Spells, IsControlState}
use Rattle.als_ckpt.proofs.codec.decode.Goals as goal

pub returns-in_err-state-clause-only : goal.returns-in_err-state-clause-only
returns-in_err-state-clause-only c = λ s fits spelled.
    let found : c.read_fields.result ≡ Some s = c.read_fields.ensures c.args.pages c.args.log_bytes s c.ranges.log_bytes.fits fits spelled in
    let none : c.read_fields.result ≡ None = c.in_err-state.was in
    absurd (cc (found, none))

pub returns-else-admits-clause-only : goal.returns-else-admits-clause-only
returns-else-admits-clause-only c = λ s fits spelled.
    let found : c.read_fields.result ≡ Some s = c.read_fields.ensures c.args.pages c.args.log_bytes s c.ranges.log_bytes.fits fits spelled in
    let was : c.read_fields.result ≡ Some c.in_ok-state.state = c.in_ok-state.was in
    let same : c.in_ok-state.state ≡ s = cc (found, was) in
    let spelled_too : Spells c.args.pages c.in_ok-state.state c.args.block.now = subst (λ (t : ControlState). Spells c.args.pages t c.args.block.now) (sym same) spelled in
    let fits_too : IsControlState c.args.log_bytes c.in_ok-state.state = subst (λ (t : ControlState). IsControlState c.args.log_bytes t) (sym same) fits in
    absurd (false≢true (sym c.if-admits.false ∙ c.admits.ensures.1 (spelled_too, fits_too)))
