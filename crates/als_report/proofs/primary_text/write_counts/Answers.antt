use Rattle.std.specs.Prelude.{codes}
use Rattle.als_report.specs.Followers.{number_tokens, counts_tokens, new_tokens}
use Rattle.als_report.proofs.TextLaws.{three}
use Rattle.als_report.proofs.primary_text.write_counts.Goals as goal

pub returns-clause-tokens : goal.returns-clause-tokens
unfolding counts_tokens
returns-clause-tokens c =
    let r = c.args.report.now in
    three _ _ _ _ (number_tokens (codes "in_doubt") r.in_doubt) (number_tokens (codes "sync") r.sync) (new_tokens r)
    c.in_ok-number.ensures.tokens c.in_ok-number-2.ensures.tokens c.in_ok-write_new.ensures.tokens
