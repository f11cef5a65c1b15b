-- What a request for commits is answered.
use Rattle.std.specs.Prelude.{◌≡◌, ℕ, List}
use Rattle.std.proofs.Common.{refl, sym, subst}
use Rattle.http.specs.declared.request.Request.{Request}
use Rattle.http.specs.Request.{body_of}
use Rattle.http_server.specs.declared.response.Response.{Response}
use Rattle.als_writer.specs.declared.work.Work.{Work}
use Rattle.als_asking.specs.declared.doubt.Doubt.{Doubt}
use Rattle.als_asking.specs.declared.manner.Manner.TheVariants as manner
use Rattle.als_asking.specs.declared.outcome.Outcome.{Outcome}
use Rattle.als_asking.specs.declared.told.Told.{Told}
use Rattle.als_asking.specs.declared.entry.Entry.{Entry}
use Rattle.als_asking.specs.declared.entry.Entry.TheVariants.{Commits, Prepares, Decides}
use Rattle.als_asking.specs.Taking.{IsTaken}
use Rattle.als_asking.specs.Deciding.{IsDecided}
use Rattle.als_asking.specs.Telling.{Shows}
use Rattle.als_asking.specs.Answering.{Answers}

pub answers_commits : {R C : Type 0} (reads : R → Request (List ℕ) → Response → R → Type 0) (commits : C → List Work → List Outcome → C → Type 0)
    (doubts : C → List Doubt → Type 0) (e : Entry) (request : Request (List ℕ)) (r : R) (c : C) (response : Response) (c_new : C) (body : List ℕ) (told : Told)
    → e ≡ Commits → body ≡ body_of request → IsTaken commits manner.Commit body c told c_new → Shows told response
    → Answers reads commits doubts e request r c response r c_new
unfolding Answers
answers_commits reads commits doubts e request r c response c_new body told way is taken shows =
    subst (λ (e : Entry). Answers reads commits doubts e request r c response r c_new) (sym way)
    ((told, subst (λ (b : List ℕ). IsTaken commits manner.Commit b c told c_new) is taken, shows), refl)

pub answers_prepares : {R C : Type 0} (reads : R → Request (List ℕ) → Response → R → Type 0) (commits : C → List Work → List Outcome → C → Type 0)
    (doubts : C → List Doubt → Type 0) (e : Entry) (request : Request (List ℕ)) (r : R) (c : C) (response : Response) (c_new : C) (body : List ℕ) (told : Told)
    → e ≡ Prepares → body ≡ body_of request → IsTaken commits manner.Prepare body c told c_new → Shows told response
    → Answers reads commits doubts e request r c response r c_new
unfolding Answers
answers_prepares reads commits doubts e request r c response c_new body told way is taken shows =
    subst (λ (e : Entry). Answers reads commits doubts e request r c response r c_new) (sym way)
    ((told, subst (λ (b : List ℕ). IsTaken commits manner.Prepare b c told c_new) is taken, shows), refl)

pub answers_decides : {R C : Type 0} (reads : R → Request (List ℕ) → Response → R → Type 0) (commits : C → List Work → List Outcome → C → Type 0)
    (doubts : C → List Doubt → Type 0) (e : Entry) (request : Request (List ℕ)) (r : R) (c : C) (response : Response) (c_new : C) (body : List ℕ) (told : Told)
    → e ≡ Decides → body ≡ body_of request → IsDecided commits body c told c_new → Shows told response
    → Answers reads commits doubts e request r c response r c_new
unfolding Answers
answers_decides reads commits doubts e request r c response c_new body told way is taken shows =
    subst (λ (e : Entry). Answers reads commits doubts e request r c response r c_new) (sym way)
    ((told, subst (λ (b : List ℕ). IsDecided commits b c told c_new) is taken, shows), refl)
