-- What outcomes are told as.
use Rattle.std.specs.Prelude.{◌≡◌, ℕ, ◌-◌, List, ◌++◌, length, take, replicate}
use Rattle.std.proofs.Common.{inl, inr, ap, ◌∙◌}
use Rattle.als_writer.specs.declared.work.Work.{Work}
use Rattle.als_asking.specs.declared.manner.Manner.{Manner}
use Rattle.als_asking.specs.Bodies.{Asks}
use Rattle.als_asking.specs.declared.told.Told.{Told}
use Rattle.als_asking.specs.declared.wanted.Wanted.{Wanted}
use Rattle.als_asking.specs.declared.outcome.Outcome.{Outcome}
use Rattle.als_asking.specs.declared.outcome.Outcome.TheVariants.{Lost}
use Rattle.als_asking.specs.Taking.{padded, IsToldOf, IsTaken}
use Rattle.als_asking.specs.Deciding.{IsDecided, IsToldDecided}
use Rattle.als_record.specs.declared.trans_id.TransId.{TransId}
use Rattle.als_store.specs.declared.decision.Decision.{Decision as Verdict}
use Rattle.als_request.specs.Deciding.{IsDecision}

pub padded_is : (n m k : ℕ) (os new : List Outcome) → new ≡ take n os ++ replicate (n - k) Lost → k ≡ length os → n ≡ m → new ≡ padded m os
padded_is n m k os new is same count =
    is ∙ ap (λ (l : ℕ). take n os ++ replicate (n - l) Lost) same ∙ ap (λ (l : ℕ). padded l os) count

-- what a body asks for, and what of that is told
pub taken_from : {C : Type 0} (commits : C → List Work → List Outcome → C → Type 0) (how : Manner) (body : List ℕ) (old : C) (asked : Wanted)
    (told : Told) (new : C) → Asks body asked → IsToldOf commits how old asked told new → IsTaken commits how body old told new
taken_from commits how body old asked told new asks (inl told_so) = inl (asked, asks, told_so)
taken_from commits how body old asked told new asks (inr left) = inr left

-- what a body decides, and what of that is told
pub decided_from : {C : Type 0} (commits : C → List Work → List Outcome → C → Type 0) (body : List ℕ) (old : C) (d : TransId × Verdict)
    (told : Told) (new : C) → IsDecision body d → IsToldDecided commits old d.0 d.1 told new → IsDecided commits body old told new
decided_from commits body old d told new says (inl told_so) = inl (d, says, told_so)
decided_from commits body old d told new says (inr left) = inr left
