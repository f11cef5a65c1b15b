use Rattle.std.proofs.Common.{◌≡◌, refl, sym, subst, ap, ◌∙◌}
use Rattle.std.specs.Prelude.{true, false}
use Rattle.als_ckpt.specs.declared.phase.Phase.TheVariants.{Primary}
use Rattle.als_ckpt.specs.declared.control_state.ControlState.{ControlState}
use Rattle.als_ckpt.specs.Control.{newest, with_state, IsControlState, Continues}
use Rattle.als_ckpt.proofs.StateLaws.{Continues-same}
use Rattle.als_store.specs.Spare.{Holding}
use Rattle.als_store.specs.Takeover.{is_following, is_primary, is_drained}
use Rattle.als_store.proofs.SealLaws.{finish_fits, stored-finished, stored-finish_torn}
use Rattle.als_store.proofs.store.Store.finish.Goals as goal

pub write_phase-requires-clause-fits : goal.write_phase-requires-clause-fits
write_phase-requires-clause-fits g c =
    let s = c.self.inside in
    let past = subst (λ (h : Holding). is_following h.stored ≡ false) (sym c.self.view_is) c.requires.sealed in
    subst (λ (n : ControlState). IsControlState s.control.log_bytes (record (newest s.control) { phase = Primary; mark = n.mark; seal = n.seal; history = n.history })) (sym c.newest-newest.ensures.newest)
    (finish_fits s.pages s.count s.log s.control s.pool.pool s.validator s.broken s.origin s.recovering c.self.invariant c.end.ensures.facts c.newest-newest.ensures.facts past)

pub write_phase-requires-clause-grows : goal.write_phase-requires-clause-grows
write_phase-requires-clause-grows g c =
    let s = c.self.inside in
    subst (λ (n : ControlState). Continues (newest s.control) (record (newest s.control) { phase = Primary; mark = n.mark; seal = n.seal; history = n.history })) (sym c.newest-newest.ensures.newest)
    (Continues-same (newest s.control) _ refl)

pub invariant_of-self : goal.invariant_of-self
invariant_of-self g c =
    let s = c.self.inside in
    let past = subst (λ (h : Holding). is_following h.stored ≡ false) (sym c.self.view_is) c.requires.sealed in
    let unfinished = subst (λ (h : Holding). is_primary h.stored ≡ false) (sym c.self.view_is) c.requires.unfinished in
    let drained = subst (λ (h : Holding). is_drained h.stored ≡ true) (sym c.self.view_is) c.requires.drained in
    stored-finished s.pages s.count s.log s.control s.pool.pool s.validator s.broken s.origin s.recovering c.self.invariant c.end.ensures.facts c.newest-newest.ensures.facts past unfinished drained c.write_phase.new.self
    (c.in-Ok.ensures.ok ∙ ap (λ (n : ControlState). with_state s.control (record (newest s.control) { phase = Primary; mark = n.mark; seal = n.seal; history = n.history })) c.newest-newest.ensures.newest)

pub invariant_of-self-in-Err : goal.invariant_of-self-in-Err
invariant_of-self-in-Err g c =
    let s = c.self.inside in
    let past = subst (λ (h : Holding). is_following h.stored ≡ false) (sym c.self.view_is) c.requires.sealed in
    let unfinished = subst (λ (h : Holding). is_primary h.stored ≡ false) (sym c.self.view_is) c.requires.unfinished in
    let drained = subst (λ (h : Holding). is_drained h.stored ≡ true) (sym c.self.view_is) c.requires.drained in
    stored-finish_torn s.pages s.count s.log s.control s.pool.pool s.validator s.broken s.origin s.recovering c.self.invariant c.end.ensures.facts c.newest-newest.ensures.facts past unfinished drained c.write_phase.new.self
    (c.in-Err.ensures.err ∙ ap (λ (n : ControlState). record (with_state s.control (record (newest s.control) { phase = Primary; mark = n.mark; seal = n.seal; history = n.history })) { sure = false; failures = c.write_phase.new.self.failures }) c.newest-newest.ensures.newest)
