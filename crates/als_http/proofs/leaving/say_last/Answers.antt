use Rattle.std.specs.Prelude.{codes}
use Rattle.std.proofs.Common.{ap, inr}
use Rattle.http_header.specs.FieldValue.{FieldValue}
use Rattle.als_http.proofs.ReplyLaws.{field_is}
use Rattle.als_http.proofs.leaving.say_last.Goals as goal

pub returns-in-Ok : goal.returns-in-Ok
returns-in-Ok c = record {
  status = c.in-Ok.ensures.status;
  body = c.in-Ok.ensures.body;
  fields = inr (field_is _ _ _ (codes "connection") _ (codes "close") c.in-Ok.ensures.headers c.from_static-name.ensures
      (ap (λ (v : FieldValue). v.bytes) c.from_static.ensures));
}
