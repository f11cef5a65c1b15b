use Rattle.std.specs.Prelude.{[], ◌∷◌, codes, Some}
use Rattle.json.specs.Token.{begin_object, end_object}
use Rattle.als_report.specs.Texts.{member_tokens, images_tokens}
use Rattle.als_report.proofs.TextLaws.{five}
use Rattle.als_report.proofs.many.write_many.Goals as goal

pub returns-clause-tokens : goal.returns-clause-tokens
returns-clause-tokens c =
    five _ _ _ _ _ _ (begin_object ∷ []) (images_tokens c.args.many.now.images.items)
    (member_tokens (codes "commits") (Some c.args.many.now.commits)) (member_tokens (codes "lsn") (Some c.args.many.now.lsn.0)) (end_object ∷ [])
    c.in_ok-begin_object.ensures.ok (rw (← c.as_slice.ensures.value) c.in_ok-write_images.ensures.tokens) c.in_ok-member.ensures.tokens c.in_ok-member-2.ensures.tokens c.in_ok-end_object.ensures.ok
