-- What a service answers to a request with which it may be asked again.
use Rattle.std.specs.Prelude.{◌≡◌, ℕ, ◌⊎◌, Bool, true, false, List, []}
use Rattle.http.specs.declared.request.Request.{Request}
use Rattle.http.specs.Request.{head_of}
use Rattle.http_server.specs.declared.response.Response.{Response}
use Rattle.http_server.specs.Response.{IsResponse}
use Rattle.als_http.specs.Telling.{query_of}
use Rattle.als_http.specs.declared.hosts.Hosts.TheVariants.{Any}
use Rattle.als_http.specs.declared.query.Query.{Query}
use Rattle.als_http.specs.declared.query.Query.TheVariants.{Value, Page, Many}

-- keys are read
abbrev pub reads_keys : Query → Bool
reads_keys (Value key lsn) = true
reads_keys (Page page lsn) = true
reads_keys (Many lsn) = true
reads_keys q = false

-- the request reads keys, whatever host it names
abbrev pub may_wait : Request (List ℕ) → Bool
may_wait request = reads_keys (query_of Any (head_of request))

-- it answers; or it stays as it was, and the response is empty, where there is no memory for its answer
abbrev pub AnswersOnce : {V : Type 0} → (V → Request (List ℕ) → Response → V → Type 0) → Request (List ℕ) → V → Response → V → Type 0
AnswersOnce answers request old response new = answers old request response new ⊎ ((new ≡ old) × IsResponse 503 [] [] response)

-- It is asked once, or more than once where the request reads keys; each answer before the last one is a 503.
pub data AnswersAtLast {V : Type 0} (answers : V → Request (List ℕ) → Response → V → Type 0) (request : Request (List ℕ)) (old : V) : Response → V → Type 0 where
  AtOnce : (response : Response) (new : V) → answers old request response new → AnswersAtLast answers request old response new
  Again : (early : Response) (mid : V) (response : Response) (new : V) → AnswersAtLast answers request old early mid → may_wait request ≡ true
      → early.status ≡ 503 → AnswersOnce answers request mid response new → AnswersAtLast answers request old response new
