-- A service that is asked again.
use Rattle.std.specs.Prelude.{◌≡◌, ℕ, List, true}
use Rattle.http.specs.declared.request.Request.{Request}
use Rattle.http_server.specs.declared.response.Response.{Response}
use Rattle.als_http.specs.Waiting.{may_wait, AnswersOnce, AnswersAtLast, Again}

-- one answer more, behind a 503
pub asked_again : {V : Type 0} (answers : V → Request (List ℕ) → Response → V → Type 0) (request : Request (List ℕ)) (start mid new : V) (early late : Response)
    → AnswersAtLast answers request start early mid → may_wait request ≡ true → early.status ≡ 503 → AnswersOnce answers request mid late new
    → AnswersAtLast answers request start late new
asked_again answers request start mid new early late before reads is_early once = Again early mid late new before reads is_early once
