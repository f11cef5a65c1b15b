use Rattle.std.specs.Prelude.{codes}
use Rattle.als_http.proofs.ReplyLaws.{field_is}
use Rattle.als_http.proofs.page_fields.add_referrer.Goals as goal

pub returns-clause-fields : goal.returns-clause-fields
returns-clause-fields c =
    field_is _ _ _ (codes "referrer-policy") _ (codes "no-referrer") c.in_ok-add_header.ensures.headers c.from_static.ensures c.no_referrer-policy.ensures
