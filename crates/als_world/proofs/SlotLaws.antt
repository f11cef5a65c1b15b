-- Slots that are filled and emptied.
use Rattle.std.proofs.Common.{◌≡◌, ◌∙◌, ℕ, zero, suc, ◌+◌, ◌<◌, Bool, true, false, List, [], ◌∷◌, ◌++◌, length, drop, replicate, slice_index_or, slice_set, Option, Some, None, Err, refl, sym, ap, subst, arith}
use Rattle.std.proofs.lemmas.List.{set-set, set-get_or}
use Rattle.als_lease.specs.Lease.{Leased}
use Rattle.als_engine.specs.declared.fault.Fault.{Fault}
use Rattle.als_engine.specs.declared.fault.Fault.TheVariants as fault
use Rattle.als_engine.specs.declared.not_given.NotGiven.{NotGiven}
use Rattle.als_engine.specs.Leases.{Gives, TakesLease, handed_back}
use Rattle.als_engine.specs.Machine.{Machine}
use Rattle.als_engine.specs.Refusals.{DoesBy}
use Rattle.als_world.specs.declared.step.WorldStep.{WorldStep}
use Rattle.als_world.specs.declared.step.WorldReply.{WorldReply}
use Rattle.als_world.specs.Leasing.{fits_slots, BySlot}
use Rattle.als_world.specs.Slots.{lease_at, with_lease, without_lease}

filled-next : {X : Type 0} (n : ℕ) (v : X) (d : List X) → n < length d → slice_set (replicate n v ++ drop n d) n v ≡ replicate (suc n) v ++ drop (suc n) d
filled-next {X} n v [] lt = absurd (omega (arith, lt))
filled-next {X} zero v (x ∷ d) lt = refl
filled-next {X} (suc n) v (x ∷ d) lt = ap (λ (l : List X). v ∷ l) (filled-next n v d (omega (arith, lt)))

-- one more of a list's first elements is set to a value
pub filled-more : {X : Type 0} (n : ℕ) (v : X) (d : List X) → n < length d → slice_set (replicate n v ++ drop n d) n v ≡ replicate (n + 1) v ++ drop (n + 1) d
filled-more {X} n v d lt =
    let next : suc n ≡ n + 1 = omega arith in
    subst (λ (k : ℕ). slice_set (replicate n v ++ drop n d) n v ≡ replicate k v ++ drop k d) next (filled-next n v d lt)

-- ---- a lease that was taken out of its slot and is put in again

pub put_over : (slots : List (Option Leased)) (at : ℕ) (lease : Leased) → with_lease (without_lease slots at) at lease ≡ with_lease slots at lease
put_over slots at lease = set-set slots at None (Some lease)

pub put_back : (slots : List (Option Leased)) (at : ℕ) (lease : Leased) → lease_at slots at ≡ Some lease → with_lease (without_lease slots at) at lease ≡ slots
put_back slots at lease is = put_over slots at lease ∙ ap (λ (l : Option Leased). slice_set slots at l) (sym is) ∙ set-get_or slots at None

-- ---- a lease that the engine refuses comes back as it is

handed : (lease : Leased) (refused : NotGiven) (cause : Fault) → refused ≡ handed_back lease cause → refused ≡ handed_back lease refused.fault
handed lease refused cause is = is ∙ ap (λ (f : Fault). handed_back lease f) (sym (ap (λ (r : NotGiven). r.fault) is))

given_back_by : (stopped : Bool) (old : Machine) (lease : Leased) (refused : NotGiven) (new : Machine)
    → DoesBy ((stopped, fault.Stopped) ∷ []) (handed_back lease) (TakesLease old lease) old (Err refused) new → refused ≡ handed_back lease refused.fault
given_back_by true old lease refused new d = handed lease refused fault.Stopped (cc d.0)
given_back_by false old lease refused new d = handed lease refused fault.Stranger d.answer

pub given_back : (old : Machine) (lease : Leased) (refused : NotGiven) (new : Machine) → Gives old lease (Err refused) new → refused ≡ handed_back lease refused.fault
given_back old lease refused new g = given_back_by old.held.broken old lease refused new g

-- ---- a step that its slots allow acts

pub acts_by_slot : (slots : List (Option Leased)) (event : WorldStep) (answer : WorldReply) (acts unchanged : Type 0) → fits_slots slots event ≡ true → acts
    → BySlot slots event answer acts unchanged
acts_by_slot slots event answer acts unchanged fits a = rw fits a
