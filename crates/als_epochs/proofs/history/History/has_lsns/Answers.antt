use Rattle.std.proofs.Common.{◌≡◌, ℕ, ◌≤◌, get_or, subst, sym, arith, inl, inr, ◌∙◌}
use Rattle.std.proofs.lemmas.Bool.{false≢true}
use Rattle.std.proofs.lemmas.Bool.Decides.{leb_tells}
use Rattle.als_epochs.proofs.HistorySteps.{lsns-first}
use Rattle.als_epochs.proofs.history.History.has_lsns.Goals as goal

pub returns : goal.returns
returns c =
    let laws = lsns-first c.args.self.now c.epoch.ensures.facts.rises (omega arith) in
    let same : c.at-first.result.0 ≡ get_or c.args.self.now 0 0 = c.at-first.ensures in
    elim (leb_tells 16 c.at-first.result.0) [
      | inl (holds, low) ↦ (λ h. laws.0 (subst (λ (n : ℕ). 16 ≤ n) same low), λ h. holds)
      | inr (other, above) ↦ (λ h. absurd (false≢true (sym other ∙ h)), λ all. absurd (let low : 16 ≤ get_or c.args.self.now 0 0 = laws.1 all in omega (arith, low, same, above)))
    ]
