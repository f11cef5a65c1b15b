use Rattle.std.specs.Prelude.{codes, Some}
use Rattle.als_report.specs.Texts.{member_tokens}
use Rattle.als_report.proofs.TextLaws.{four}
use Rattle.als_report.proofs.report_text.write_redo.Goals as goal

pub returns-clause-tokens : goal.returns-clause-tokens
returns-clause-tokens c =
    four _ _ _ _ _ (member_tokens (codes "pending") (Some c.args.report.now.pending)) (member_tokens (codes "leases") (Some c.args.report.now.leases))
    (member_tokens (codes "commits") c.args.commits) (member_tokens (codes "seconds_since_last_frame") c.args.report.now.silence)
    c.in_ok-member.ensures.tokens c.in_ok-member-2.ensures.tokens c.in_ok-member-3.ensures.tokens c.in_ok-member-4.ensures.tokens
