use Rattle.std.specs.Prelude.{codes}
use Rattle.als_report.specs.Followers.{number_tokens}
use Rattle.als_report.proofs.TextLaws.{three}
use Rattle.als_report.proofs.primary_text.write_work.Goals as goal

pub returns-clause-tokens : goal.returns-clause-tokens
returns-clause-tokens c =
    let w = c.args.work.now in
    three _ _ _ _ (number_tokens (codes "transactions") w.transactions) (number_tokens (codes "groups") w.groups)
    (number_tokens (codes "force_microseconds") w.force_microseconds)
    c.in_ok-number.ensures.tokens c.in_ok-number-2.ensures.tokens c.in_ok-number-3.ensures.tokens
