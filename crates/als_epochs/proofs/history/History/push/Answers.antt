use Rattle.std.proofs.Common.{List, ℕ, sym, subst, arith}
use Rattle.als_epochs.specs.Histories.{Takes, IsHistory}
use Rattle.als_epochs.specs.HistoryLaws.{IsHistory-push}
use Rattle.als_epochs.proofs.HistorySteps.{IsKept-push, seals-push}
use Rattle.als_epochs.proofs.history.History.push.Goals as goal

pub invariant_of-self : goal.invariant_of-self
invariant_of-self c =
    IsKept-push c.self.inside.epoch c.self.inside.seals c.args.seal.0 c.self.invariant
    (subst (λ (v : List ℕ). Takes v c.args.seal.0) (sym c.self.view_is) c.requires) (omega arith)

pub returns-clause-facts : goal.returns-clause-facts
returns-clause-facts c =
    let takes = subst (λ (v : List ℕ). Takes v c.args.seal.0) (sym c.self.view_is) c.requires in
    subst IsHistory (sym (seals-push c.self.inside.epoch c.self.inside.seals c.args.seal.0 c.self.invariant takes.0))
    (IsHistory-push _ c.args.seal.0 c.self.invariant.history takes (omega arith))
