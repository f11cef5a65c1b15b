use Rattle.std.proofs.Common.{◌≤◌, refl, sym, ap, subst, ◌∙◌}
use Rattle.als_ckpt.specs.declared.control_state.ControlState.{ControlState}
use Rattle.als_ckpt.specs.Control.{Controlled, newest, IsControlState, Continues}
use Rattle.als_ckpt.proofs.StateLaws.{IsControlState-raised, Continues-same}
use Rattle.als_ckpt.proofs.KeptLaws.{IsKept-newest, IsPublished-newest}
use Rattle.als_ckpt.proofs.control.Control.write_mark.Goals as goal

pub write-requires-clause-fits : goal.write-requires-clause-fits
write-requires-clause-fits g c =
    let same_last = c.self.invariant.states.last ∙ ap newest c.self.view_is in
    let rises = subst (λ (t : ControlState). t.mark.0 ≤ c.args.mark.0) (sym same_last) c.requires.rises in
    let fits = subst (λ n. IsControlState n c.self.inside.last) (ap (λ (v : Controlled). v.log_bytes) c.self.view_is)
    (IsKept-newest _ _ _ _ _ _ _ _ c.self.invariant.states) in
    rw c.with_mark-state.ensures (IsControlState-raised _ c.self.inside.last c.args.mark fits rises c.requires.in_log)

pub write-requires-clause-named : goal.write-requires-clause-named
write-requires-clause-named g c = rw (c.with_mark-state.ensures, ← c.self.view_is) (IsPublished-newest _ _ _ _ _ _ _ _ _ _ c.self.invariant)

pub write-requires-clause-grows : goal.write-requires-clause-grows
write-requires-clause-grows g c =
    let same_last = c.self.invariant.states.last ∙ ap newest c.self.view_is in
    rw c.with_mark-state.ensures (subst (λ (t : ControlState). Continues t (record c.self.inside.last { mark = c.args.mark })) same_last (Continues-same c.self.inside.last _ refl))
