-- What a request is answered, by the commits and the reads of a node.
use Rattle.std.specs.Prelude.{◌≡◌, ℕ, List}
use Rattle.http.specs.declared.request.Request.{Request}
use Rattle.http.specs.Request.{body_of}
use Rattle.http_server.specs.declared.response.Response.{Response}
use Rattle.als_writer.specs.declared.work.Work.{Work}
use Rattle.als_asking.specs.declared.doubt.Doubt.{Doubt}
use Rattle.als_asking.specs.declared.manner.Manner.{Manner}
use Rattle.als_asking.specs.declared.manner.Manner.TheVariants as manner
use Rattle.als_asking.specs.declared.outcome.Outcome.{Outcome}
use Rattle.als_asking.specs.declared.told.Told.{Told}
use Rattle.als_asking.specs.declared.told.Told.TheVariants as told
use Rattle.als_asking.specs.declared.entry.Entry.{Entry}
use Rattle.als_asking.specs.declared.entry.Entry.TheVariants.{Reads, Commits, Prepares, Decides, InDoubt, Denied}
use Rattle.als_asking.specs.Taking.{IsTaken}
use Rattle.als_asking.specs.Deciding.{IsDecided, IsListed}
use Rattle.als_asking.specs.Telling.{Shows}

-- what the transactions of a body are answered
abbrev pub ShowsTaken : {C : Type 0} → (C → List Work → List Outcome → C → Type 0) → Manner → List ℕ → C → Response → C → Type 0
ShowsTaken commits manner body old response new = (told : Told) × IsTaken commits manner body old told new × Shows told response

-- what the decision of a body is answered
abbrev pub ShowsDecided : {C : Type 0} → (C → List Work → List Outcome → C → Type 0) → List ℕ → C → Response → C → Type 0
ShowsDecided commits body old response new = (told : Told) × IsDecided commits body old told new × Shows told response

-- what is answered of the transactions in doubt
abbrev pub ShowsListed : {C : Type 0} → (C → List Doubt → Type 0) → C → Response → Type 0
ShowsListed doubts c response = (told : Told) × IsListed doubts c told × Shows told response

-- what a request that goes this way is answered: by the reads, by the commits, or by neither
unfoldable pub Answers : {R C : Type 0} → (R → Request (List ℕ) → Response → R → Type 0) → (C → List Work → List Outcome → C → Type 0)
    → (C → List Doubt → Type 0) → Entry → Request (List ℕ) → R → C → Response → R → C → Type 0
Answers reads commits doubts Reads request r c response r_new c_new = reads r request response r_new × (c_new ≡ c)
Answers reads commits doubts Commits request r c response r_new c_new = ShowsTaken commits manner.Commit (body_of request) c response c_new × (r_new ≡ r)
Answers reads commits doubts Prepares request r c response r_new c_new = ShowsTaken commits manner.Prepare (body_of request) c response c_new × (r_new ≡ r)
Answers reads commits doubts Decides request r c response r_new c_new = ShowsDecided commits (body_of request) c response c_new × (r_new ≡ r)
Answers reads commits doubts InDoubt request r c response r_new c_new = ShowsListed doubts c response × (r_new ≡ r) × (c_new ≡ c)
Answers reads commits doubts (Denied why) request r c response r_new c_new = Shows (told.Denied why) response × (r_new ≡ r) × (c_new ≡ c)
