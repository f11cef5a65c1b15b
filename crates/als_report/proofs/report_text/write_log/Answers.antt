use Rattle.std.specs.Prelude.{[], ◌∷◌, codes, Some}
use Rattle.json.specs.Token.{key, string}
use Rattle.als_report.specs.States.{name_of_state}
use Rattle.als_report.specs.Texts.{member_tokens}
use Rattle.als_report.proofs.TextLaws.{four}
use Rattle.als_report.proofs.report_text.write_log.Goals as goal

pub returns-clause-tokens : goal.returns-clause-tokens
returns-clause-tokens c =
    four _ _ _ _ _ (key (codes "state") ∷ []) (string (name_of_state c.args.report.now.state) ∷ [])
    (member_tokens (codes "end") (Some c.args.report.now.end.0)) (member_tokens (codes "acknowledged") (Some c.args.report.now.acknowledged.0))
    c.in_ok-key.ensures.ok (rw (← c.name.ensures) c.in_ok-string.ensures.ok) c.in_ok-member.ensures.tokens c.in_ok-member-2.ensures.tokens
