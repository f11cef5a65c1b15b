use Rattle.std.proofs.Common.{sym, ◌∙◌, arith}
use Rattle.als_epochs.proofs.JudgingLaws.{same-front}
use Rattle.als_epochs.proofs.history.History.is.Goals as goal

pub returns : goal.returns
returns c =
    let laws = same-front c.args.self.now c.args.other.now (omega arith) in
    (λ h. laws.0 (sym c.starts_with.ensures ∙ h), λ same. c.starts_with.ensures ∙ laws.1 same)
