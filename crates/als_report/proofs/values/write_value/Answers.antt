use Rattle.std.specs.Prelude.{[], ◌∷◌, codes, Some}
use Rattle.json.specs.Token.{begin_object, end_object, key}
use Rattle.als_report.specs.Texts.{member_tokens, image_token}
use Rattle.als_report.proofs.TextLaws.{five}
use Rattle.als_report.proofs.values.write_value.Goals as goal

pub returns-clause-tokens : goal.returns-clause-tokens
returns-clause-tokens c =
    five _ _ _ _ _ _ (begin_object ∷ []) (key (codes "value") ∷ image_token c.args.answer.now.value ∷ [])
    (member_tokens (codes "commits") (Some c.args.answer.now.commits)) (member_tokens (codes "lsn") (Some c.args.answer.now.lsn.0)) (end_object ∷ [])
    c.in_ok-begin_object.ensures.ok c.in_ok-image.ensures.tokens c.in_ok-member.ensures.tokens c.in_ok-member-2.ensures.tokens c.in_ok-end_object.ensures.ok
