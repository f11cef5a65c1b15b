use Rattle.std.specs.Prelude.{codes}
use Rattle.std.proofs.Common.{◌≡◌, ℕ, ◌++◌, Option, subst}
use Rattle.als_report.specs.Health.{room_of, takeovers_left, transactions_left}
use Rattle.als_report.specs.Texts.{member_tokens}
use Rattle.als_report.proofs.TextLaws.{four}
use Rattle.als_report.proofs.report_text.write_room.Goals as goal

pub returns-clause-tokens : goal.returns-clause-tokens
returns-clause-tokens c =
    four _ _ _ _ _ (member_tokens (codes "capacity") c.args.report.now.capacity) (member_tokens (codes "left") (room_of c.args.report.now))
    (member_tokens (codes "takeovers_left") (takeovers_left c.args.report.now)) (member_tokens (codes "transactions_left") (transactions_left c.args.report.now))
    c.in_ok-member.ensures.tokens
    (subst (λ (left : Option ℕ). c.member-2.new.text.tokens ≡ c.member.new.text.tokens ++ member_tokens (codes "left") left) c.room.ensures c.in_ok-member-2.ensures.tokens)
    (subst (λ (left : Option ℕ). c.member-3.new.text.tokens ≡ c.member-2.new.text.tokens ++ member_tokens (codes "takeovers_left") left) c.takeovers_left.ensures c.in_ok-member-3.ensures.tokens)
    (subst (λ (left : Option ℕ). c.member-4.new.text.tokens ≡ c.member-3.new.text.tokens ++ member_tokens (codes "transactions_left") left) c.transactions_left.ensures c.in_ok-member-4.ensures.tokens)
