-- Tallies that some events alone raise.
use Rattle.std.proofs.Common.{◌≡◌, ◌≢◌, ◌==◌, ◌||◌, ℕ, zero, suc, ◌+◌, Bool, true, false, List, [], ◌∷◌, refl, sym, ap, ap₂, ◌∙◌}
use Rattle.std.specs.Prelude.{slice_index, Result, Ok, Err}
use Rattle.std.proofs.lemmas.Bool.{true≢false}
use Rattle.als_engine.specs.declared.event.Event.{Event}
use Rattle.als_engine.specs.Tally.{place_of, raised, TellsOk}
use Rattle.als_workers.specs.Tallies.{is_one_of, AloneRaise}

-- the other numbers of a tally stay
raised-other : (place at by : ℕ) (xs : List ℕ) → at ≢ place → slice_index (raised place by xs) at ≡ slice_index xs at
raised-other place at by [] other = refl
raised-other zero zero by (x ∷ xs) other = absurd (other refl)
raised-other zero (suc at) by (x ∷ xs) other = refl
raised-other (suc place) zero by (x ∷ xs) other = refl
raised-other (suc place) (suc at) by (x ∷ xs) other = raised-other place at by xs (λ same. other (ap suc same))

-- events of one place are one of these both or neither
same_place : (d e : Event) (events : List Event) → place_of d ≡ place_of e → is_one_of d events ≡ is_one_of e events
same_place d e [] same = refl
same_place d e (x ∷ events) same =
    ap₂ (λ (a b : Bool). a || b) (ap (λ (n : ℕ). n == place_of x) same) (same_place d e events same)

-- another event has another place
other_place : (d e : Event) (events : List Event) → is_one_of d events ≡ false → is_one_of e events ≡ true
    → place_of d ≢ place_of e
other_place d e events other made same = true≢false (sym made ∙ sym (same_place d e events same) ∙ other)

pub none : (events : List Event) (xs : List ℕ) → AloneRaise events xs xs
none events xs = record { others = λ d other. refl }

-- one event
pub one : {A B : Type 0} → (events : List Event) (e : Event) (answer : Result A B) (xs ys : List ℕ) → is_one_of e events ≡ true
    → TellsOk e answer xs ys → AloneRaise events xs ys
one events e (Ok a) xs ys made told = record {
  others = λ d other.
      ap (λ (zs : List ℕ). slice_index zs (place_of d)) told ∙ raised-other (place_of e) (place_of d) 1 xs (other_place d e events other made);
}
one events e (Err b) xs ys made told = record { others = λ d other. ap (λ (zs : List ℕ). slice_index zs (place_of d)) told }

-- one after another
pub both : (events : List Event) (xs ys zs : List ℕ) → AloneRaise events xs ys → AloneRaise events ys zs → AloneRaise events xs zs
both events xs ys zs a b = record { others = λ d other. b.others d other ∙ a.others d other }
