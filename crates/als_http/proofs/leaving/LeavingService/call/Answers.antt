use Rattle.std.proofs.Common.{refl, inl}
use Rattle.als_http.proofs.leaving.LeavingService.call.Goals as goal

pub returns-else-is_last-clause-ok : goal.returns-else-is_last-clause-ok
returns-else-is_last-clause-ok g c =
    (c.call.new.response, c.in_ok-call.ensures.ok, record { status = refl; body = refl; fields = inl refl })
