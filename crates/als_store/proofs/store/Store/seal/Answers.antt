use Rattle.std.proofs.Common.{◌≡◌, ◌≤◌, [], ◌∷◌, ◌++◌, sym, subst, ap, ◌∙◌, arith}
use Rattle.std.specs.Prelude.{true}
use Rattle.als_record.specs.LogText.{end_of}
use Rattle.als_ckpt.specs.declared.control_state.ControlState.{ControlState}
use Rattle.als_epochs.specs.Histories.{Takes}
use Rattle.als_store.specs.Spare.{Holding}
use Rattle.als_store.specs.Takeover.{is_following, TakesSeal}
use Rattle.als_store.proofs.SealLaws.{seal_fits, seal_continues, stored-sealed, stored-seal_torn}
use Rattle.als_store.proofs.store.Store.seal.Goals as goal

pub grown-history-requires : goal.grown-history-requires
grown-history-requires g c =
    let s = c.self.inside in
    let takes = subst (λ (h : Holding). TakesSeal h.stored) (sym c.self.view_is) c.requires.takes in
    subst (λ (n : ControlState). Takes n.history c.end-end.result.0) (sym c.newest.ensures.newest) (takes.0, omega (arith, takes.1, c.end-end.ensures.end))

pub write_phase-requires-clause-fits : goal.write_phase-requires-clause-fits
write_phase-requires-clause-fits g c =
    let s = c.self.inside in
    let takes = subst (λ (h : Holding). TakesSeal h.stored) (sym c.self.view_is) c.requires.takes in
    seal_fits s.pages s.count s.log s.control s.pool.pool s.validator s.broken s.origin s.recovering c.self.invariant c.end-end.ensures.facts c.newest.ensures.facts c.end-end.result c.grown-history.result
    c.end-end.ensures.end (takes.0, omega (arith, takes.1, c.end-end.ensures.end))
    (c.grown-history.ensures ∙ ap (λ (n : ControlState). n.history ++ c.end-end.result.0 ∷ []) c.newest.ensures.newest)

pub write_phase-requires-clause-grows : goal.write_phase-requires-clause-grows
write_phase-requires-clause-grows g c =
    let s = c.self.inside in
    seal_continues s.pages s.count s.log s.control s.pool.pool s.validator s.broken s.origin s.recovering c.self.invariant c.end-end.ensures.facts c.newest.ensures.facts c.end-end.result c.grown-history.result
    c.end-end.ensures.end (c.grown-history.ensures ∙ ap (λ (n : ControlState). n.history ++ c.end-end.result.0 ∷ []) c.newest.ensures.newest)

pub invariant_of-self : goal.invariant_of-self
invariant_of-self g c =
    let s = c.self.inside in
    let low = subst (λ (h : Holding). end_of h.stored.log ≤ h.stored.synced) (sym c.self.view_is) c.requires.synced in
    let following = subst (λ (h : Holding). is_following h.stored ≡ true) (sym c.self.view_is) c.requires.following in
    stored-sealed s.pages s.count s.log s.control s.pool.pool s.validator s.broken s.origin s.recovering c.self.invariant c.end-end.ensures.facts c.newest.ensures.facts
    c.write_phase.new.self c.end-end.result c.grown-history.result c.seal.new.self (c.seal.ensures.kept s.pages s.log.log c.self.invariant.judged) c.seal.ensures.sealed
    c.end-end.ensures.end low following
    (c.grown-history.ensures ∙ ap (λ (n : ControlState). n.history ++ c.end-end.result.0 ∷ []) c.newest.ensures.newest)
    c.in-Ok.ensures.ok

pub invariant_of-self-in-Err : goal.invariant_of-self-in-Err
invariant_of-self-in-Err g c =
    let s = c.self.inside in
    let low = subst (λ (h : Holding). end_of h.stored.log ≤ h.stored.synced) (sym c.self.view_is) c.requires.synced in
    let following = subst (λ (h : Holding). is_following h.stored ≡ true) (sym c.self.view_is) c.requires.following in
    stored-seal_torn s.pages s.count s.log s.control s.pool.pool s.validator s.broken s.origin s.recovering c.self.invariant c.end-end.ensures.facts c.newest.ensures.facts
    c.write_phase.new.self c.end-end.result c.grown-history.result c.seal.new.self (c.seal.ensures.kept s.pages s.log.log c.self.invariant.judged) c.seal.ensures.sealed
    c.end-end.ensures.end low following
    (c.grown-history.ensures ∙ ap (λ (n : ControlState). n.history ++ c.end-end.result.0 ∷ []) c.newest.ensures.newest)
    c.in-Err.ensures.err
