use Rattle.std.specs.Prelude.{[], ◌∷◌}
use Rattle.json.specs.Token.{begin_object, end_object}
use Rattle.als_report.specs.Followers.{follower_tokens, place_tokens, lag_tokens, session_tokens}
use Rattle.als_report.proofs.TextLaws.{five}
use Rattle.als_report.proofs.primary_text.write_follower.Goals as goal

pub returns-clause-tokens : goal.returns-clause-tokens
unfolding follower_tokens
returns-clause-tokens c =
    let f = c.args.follower.now in
    five _ _ _ _ _ _ (begin_object ∷ []) (place_tokens f) (lag_tokens c.args.acknowledged.0 f) (session_tokens f) (end_object ∷ [])
    c.in_ok-begin_object.ensures.ok c.in_ok-write_place.ensures.tokens c.in_ok-write_lag.ensures.tokens c.in_ok-write_session.ensures.tokens
    c.in_ok-end_object.ensures.ok
