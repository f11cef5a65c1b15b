use Rattle.std.proofs.Common.{◌≡◌, ◌+◌, List, ℕ, refl, sym, ap, subst, ◌∙◌}
use Rattle.als_epochs.specs.Histories.{RisesFrom}
use Rattle.als_ckpt.specs.declared.phase.Phase.TheVariants.{Following}
use Rattle.als_ckpt.specs.Again.{seals_below}
use Rattle.als_ckpt.specs.declared.control_state.ControlState.{ControlState}
use Rattle.als_ckpt.specs.Control.{IsControlState, Continues, Controlled, first_state, new_control, newest, settled, with_state}
use Rattle.als_ckpt.specs.Holding.{HoldsControl, HoldsOneOf}
use Rattle.als_ckpt.proofs.AgainLaws.{seals_below-rises}
use Rattle.als_rewind.specs.Fronts.{front_state, front_said}
use Rattle.als_rewind.proofs.Said.{fits, continues, says_one}
use Rattle.als_rewind.proofs.control.say_front.Goals as goal

pub write_phase-requires-clause-fits : goal.write_phase-requires-clause-fits
write_phase-requires-clause-fits g c =
    let seals = c.seals_under-seals.result in
    let rises : RisesFrom 16 seals = subst (RisesFrom 16) (sym c.seals_under-seals.ensures) (seals_below-rises c.args.mark.0 16 c.args.history.now c.requires.history) in
    subst (λ (k : Controlled). IsControlState k.log_bytes (record (newest k) { phase = Following; mark = c.args.mark; seal = record { 0 = 0 }; history = seals })) (sym c.in-Ok.ensures.ok)
    (fits c.args.log_bytes c.args.mark.0 seals c.requires.mark c.requires.log_bytes c.epoch-epoch.ensures.facts rises)

pub write_phase-requires-clause-grows : goal.write_phase-requires-clause-grows
write_phase-requires-clause-grows g c =
    let seals = c.seals_under-seals.result in
    let rises : RisesFrom 16 seals = subst (RisesFrom 16) (sym c.seals_under-seals.ensures) (seals_below-rises c.args.mark.0 16 c.args.history.now c.requires.history) in
    subst (λ (k : Controlled). Continues (newest k) (record (newest k) { phase = Following; mark = c.args.mark; seal = record { 0 = 0 }; history = seals })) (sym c.in-Ok.ensures.ok)
    (continues seals c.args.mark.0 rises)

pub returns-clause-says : goal.returns-clause-says
returns-clause-says g c left keeps =
    let seals = c.seals_under-seals.result in
    let state : ControlState = front_state seals c.args.mark.0 in
    let blocks = g.D.BlockDisk.block_count c.args.disk in
    let failures = g.D.BlockDisk.failures c.args.disk in
    let attempts = g.D.BlockDisk.attempts c.args.disk + 2 in
    let first : c.in-Ok.control ≡ new_control c.args.pages c.args.log_bytes first_state blocks failures attempts = c.in-Ok.ensures.ok in
    let whole : c.sync.new.self ≡ settled (with_state (new_control c.args.pages c.args.log_bytes first_state blocks failures attempts) state) =
    c.in_ok-sync.ensures.ok ∙ ap settled c.in_ok-write_phase.ensures.ok
    ∙ ap (λ (k : Controlled). settled (with_state k (record (newest k) { phase = Following; mark = c.args.mark; seal = record { 0 = 0 }; history = seals }))) first in
    let one : HoldsOneOf (settled (with_state (new_control c.args.pages c.args.log_bytes first_state blocks failures attempts) state)) left =
    subst (λ (k : Controlled). HoldsOneOf k left) whole (c.into_disk.ensures.leaves left keeps) in
    subst (λ (xs : List ℕ). HoldsControl c.args.pages c.args.log_bytes left (front_said xs c.args.mark.0)) c.seals_under-seals.ensures
    (says_one c.args.pages c.args.log_bytes blocks failures attempts state left refl one)
