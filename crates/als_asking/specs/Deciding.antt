-- What becomes of a request that decides, and of one for what is in doubt.
use Rattle.std.specs.Prelude.{◌≡◌, ℕ, ◌⊎◌, List, [], ◌∷◌}
use Rattle.als_record.specs.declared.trans_id.TransId.{TransId}
use Rattle.als_store.specs.declared.decision.Decision.{Decision as Verdict}
use Rattle.als_writer.specs.declared.work.Work.{Work}
use Rattle.als_writer.specs.declared.work.Work.TheVariants.{Decide}
use Rattle.als_request.specs.Deciding.{IsDecision}
use Rattle.als_asking.specs.declared.doubt.Doubt.{Doubt}
use Rattle.als_asking.specs.declared.outcome.Outcome.{Outcome}
use Rattle.als_asking.specs.declared.told.Told.{Told}
use Rattle.als_asking.specs.declared.told.Told.TheVariants.{Decision, InDoubt}
use Rattle.als_asking.specs.Taking.{first_of, IsUnread, IsLeft}

-- a transaction is decided, and its outcome is answered
pub record IsOneDecided {C : Type 0} (commits : C → List Work → List Outcome → C → Type 0) (old : C)
    (trans : TransId) (verdict : Verdict) (told : Told) (new : C) : Type 0 where
  pub outcomes : List Outcome
  pub committed : commits old (Decide trans verdict ∷ []) outcomes new
  pub tells : told ≡ Decision trans verdict (first_of outcomes)

-- a transaction is decided and that is answered, or nothing is
abbrev pub IsToldDecided : {C : Type 0} → (C → List Work → List Outcome → C → Type 0) → C → TransId → Verdict → Told → C → Type 0
IsToldDecided commits old trans verdict told new = IsOneDecided commits old trans verdict told new ⊎ IsLeft old told new

-- what the body decides is decided and answered, or nothing is
abbrev pub IsDecided : {C : Type 0} → (C → List Work → List Outcome → C → Type 0) → List ℕ → C → Told → C → Type 0
IsDecided commits body old told new =
    ((d : TransId × Verdict) × IsDecision body d × IsOneDecided commits old d.0 d.1 told new) ⊎ IsLeft old told new

-- what is in doubt is answered, or that there is no memory for it
unfoldable pub IsListed : {C : Type 0} → (C → List Doubt → Type 0) → C → Told → Type 0
IsListed doubts c (InDoubt found) = doubts c found.items
IsListed doubts c told = IsUnread told
