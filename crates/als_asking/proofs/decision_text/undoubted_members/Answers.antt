use Rattle.std.specs.Prelude.{ℕ, ◌++◌, codes}
use Rattle.std.proofs.Common.{ap, ◌∙◌}
use Rattle.als_asking.specs.Telling.{string_tokens, number_tokens}
use Rattle.als_asking.proofs.TextLaws.{two}
use Rattle.als_asking.proofs.decision_text.undoubted_members.Goals as goal

pub returns-clause-tokens : goal.returns-clause-tokens
returns-clause-tokens c =
    two _ _ _ (string_tokens (codes "error") (codes "not in doubt")) (number_tokens (codes "trans") c.args.trans.0) c.in_ok-string.ensures.tokens
    (c.in_ok-number.ensures.tokens ∙ ap (λ (n : ℕ). c.string.new.text.tokens ++ number_tokens (codes "trans") n) c.from.ensures)
