use Rattle.std.proofs.Common.{◌≡◌, ◌≤◌, None, sym, ap, subst, ◌∙◌}
use Rattle.std.specs.Prelude.{◌⊎◌}
use Rattle.als_ckpt.specs.declared.control_state.ControlState.{ControlState}
use Rattle.als_ckpt.specs.Regions.{IsPublished, held_at}
use Rattle.als_ckpt.specs.Control.{Controlled, newest, IsControlState, Continues, MayName}
use Rattle.als_ckpt.proofs.KeepingLaws.{IsKeeping-written, IsKeeping-failed}
use Rattle.als_ckpt.proofs.control.Control.write.Goals as goal

pub invariant_of-self : goal.invariant_of-self
invariant_of-self g c =
    let s = c.self.inside in
    let same_last = c.self.invariant.states.last ∙ ap newest c.self.view_is in
    let rises = subst (λ (t : ControlState). t.mark.0 ≤ c.args.state.mark.0) (sym same_last) c.requires.rises in
    let grows = subst (λ (t : ControlState). Continues t c.args.state) (sym same_last) c.requires.grows in
    let fits = subst (λ n. IsControlState n c.args.state) (sym (ap (λ (v : Controlled). v.log_bytes) c.self.view_is)) c.requires.fits in
    let named = subst (λ (v : Controlled). IsPublished v.pages c.args.state.published c.args.state.position.0 (held_at v.held c.args.state.published)) (sym c.self.view_is) c.requires.named in
    let may = subst (λ (v : Controlled). MayName v c.args.state) (sym c.self.view_is) c.requires.place in
    let place = subst (λ (t : ControlState). (c.args.state.published ≡ t.published) ⊎ ((s.begun ≡ None) × (t.published ≡ s.synced.published))) (sym c.self.invariant.states.last) may in
    rw (c.in-Ok.ensures.count, c.note_done.ensures.states, c.note_done.ensures.sure)
    (IsKeeping-written _ _ _ _ _ _ _ _ _ _ _ c.self.invariant c.args.state fits rises grows c.in-Ok.ensures.others named place c.in-Ok.ensures.ok)

pub invariant_of-self-in-Err : goal.invariant_of-self-in-Err
invariant_of-self-in-Err g c =
    let s = c.self.inside in
    let same_last = c.self.invariant.states.last ∙ ap newest c.self.view_is in
    let rises = subst (λ (t : ControlState). t.mark.0 ≤ c.args.state.mark.0) (sym same_last) c.requires.rises in
    let grows = subst (λ (t : ControlState). Continues t c.args.state) (sym same_last) c.requires.grows in
    let fits = subst (λ n. IsControlState n c.args.state) (sym (ap (λ (v : Controlled). v.log_bytes) c.self.view_is)) c.requires.fits in
    let named = subst (λ (v : Controlled). IsPublished v.pages c.args.state.published c.args.state.position.0 (held_at v.held c.args.state.published)) (sym c.self.view_is) c.requires.named in
    let may = subst (λ (v : Controlled). MayName v c.args.state) (sym c.self.view_is) c.requires.place in
    let place = subst (λ (t : ControlState). (c.args.state.published ≡ t.published) ⊎ ((s.begun ≡ None) × (t.published ≡ s.synced.published))) (sym c.self.invariant.states.last) may in
    rw (c.in-Err.ensures.count, c.note_failed.ensures.states, c.note_failed.ensures.sure)
    (IsKeeping-failed _ _ _ _ _ _ _ _ _ _ _ c.self.invariant c.args.state fits rises grows c.in-Err.ensures.others named place c.in-Err.ensures.err)
