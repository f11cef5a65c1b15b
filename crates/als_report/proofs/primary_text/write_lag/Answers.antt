use Rattle.std.specs.Prelude.{codes}
use Rattle.als_report.specs.Followers.{behind, seconds_behind, number_tokens}
use Rattle.als_report.proofs.TextLaws.{two, number_is}
use Rattle.als_report.proofs.primary_text.write_lag.Goals as goal

pub returns-clause-tokens : goal.returns-clause-tokens
returns-clause-tokens c =
    let acknowledged = c.args.acknowledged.0 in
    let f = c.args.follower.now in
    two _ _ _ (number_tokens (codes "behind") (behind acknowledged f)) (number_tokens (codes "seconds_behind") (seconds_behind acknowledged f))
    (number_is _ _ (codes "behind") _ (behind acknowledged f) c.in_ok-number.ensures.tokens c.behind.ensures)
    (number_is _ _ (codes "seconds_behind") _ (seconds_behind acknowledged f) c.in_ok-number-2.ensures.tokens c.seconds_behind.ensures)
