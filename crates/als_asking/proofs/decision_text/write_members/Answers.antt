use Rattle.std.specs.Prelude.{Bool, ◌++◌, codes}
use Rattle.std.proofs.Common.{ap, ◌∙◌}
use Rattle.als_asking.specs.Telling.{written_tokens, truth_tokens, commits_by, decision_members}
use Rattle.als_asking.proofs.TextLaws.{two}
use Rattle.als_asking.proofs.decision_text.write_members.Goals as goal

pub returns-in_ok-truth-in-Decided-clause-tokens : goal.returns-in_ok-truth-in-Decided-clause-tokens
unfolding decision_members
returns-in_ok-truth-in-Decided-clause-tokens c =
    rw (c.in-Decided.is)
    (two _ _ _ (written_tokens c.in-Decided.written) (truth_tokens (codes "committed") (commits_by c.args.verdict))
    c.in_ok-written_members-in-Decided.ensures.tokens
    (c.in_ok-truth-in-Decided.ensures.tokens
    ∙ ap (λ (b : Bool). c.written_members.new.text.tokens ++ truth_tokens (codes "committed") b) c.commits_by.ensures))
