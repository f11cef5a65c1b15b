use Rattle.std.proofs.Common.{◌≡◌, ◌≢◌, ◌<◌, ◌≤◌, ℕ, List, sym, subst, inl, inr, ◌∙◌, arith}
use Rattle.std.specs.Cmp.Lexicographic.{same_text, other_text}
use Rattle.std.proofs.lemmas.Bool.{cases_lt}
use Rattle.als_folder.specs.Roles.{role_text}
use Rattle.als_folder.proofs.RoleTexts.{found_once}
use Rattle.als_folder.proofs.role.Role.of_text.Goals as goal

pub loop-epoch-init : goal.loop-epoch-init
loop-epoch-init c = record { within = omega arith; none = λ e below. absurd (omega arith) }

pub returns-then-eq-clause-again : goal.returns-then-eq-clause-again
returns-then-eq-clause-again c =
    let same = same_text c.args.text.now c.as_bytes.result.now c.if-eq.ensures in
    let spelled = same ∙ c.as_bytes.ensures.value ∙ c.in_ok-spelled.ensures in
    found_once c.args.text.now c.loop-epoch.epoch (omega arith) spelled

pub loop-epoch-preserved : goal.loop-epoch-preserved
loop-epoch-preserved c =
    let other = other_text c.args.text.now c.as_bytes.result.now c.if-eq.ensures in
    let not_this : c.args.text.now ≢ role_text c.loop-epoch.epoch = λ is. other (is ∙ sym (c.as_bytes.ensures.value ∙ c.in_ok-spelled.ensures)) in
    record {
      within = omega arith;
      none = λ e below. elim (cases_lt e c.loop-epoch.epoch) [
        | inl earlier ↦ c.loop-epoch.invariant.none e earlier
        | inr not ↦ let here : c.loop-epoch.epoch ≡ e = omega arith in subst (λ (n : ℕ). c.args.text.now ≢ role_text n) here not_this
      ];
    }

pub returns-clause-again : goal.returns-clause-again
returns-clause-again c = λ epoch small is. absurd (c.loop-epoch.invariant.none epoch (omega arith) is)
