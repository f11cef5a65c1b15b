use Rattle.als_http.specs.Replies.{policy_field, options_field, referrer_field}
use Rattle.als_http.proofs.ReplyLaws.{three_fields}
use Rattle.als_http.proofs.page_fields.add_page_fields.Goals as goal

pub returns-clause-fields : goal.returns-clause-fields
returns-clause-fields c =
    three_fields _ _ _ _ policy_field options_field referrer_field
    c.in_ok-add_policy.ensures.fields c.in_ok-add_options.ensures.fields c.in_ok-add_referrer.ensures.fields
