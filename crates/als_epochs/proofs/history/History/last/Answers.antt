use Rattle.std.proofs.Common.{ap, ◌∙◌, arith}
use Rattle.als_epochs.specs.Histories.{last_seal}
use Rattle.als_epochs.proofs.HistorySteps.{last_seal-kept}
use Rattle.als_epochs.proofs.history.History.last.Goals as goal

pub returns-else-self-eq0 : goal.returns-else-self-eq0
returns-else-self-eq0 c =
    last_seal-kept c.self.inside.epoch c.self.inside.seals c.self.invariant (omega arith) ∙ ap last_seal c.self.view_is
