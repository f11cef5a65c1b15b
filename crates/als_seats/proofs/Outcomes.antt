-- What becomes of the slots, one after another.
use Rattle.std.proofs.Common.{◌≡◌, ◌≢◌, ◌<◌, ◌≤◌, ◌⊎◌, ◌∙◌, ℕ, ◌+◌, ◌-◌, Bool, true, false, List, [], ◌∷◌, ◌++◌, length, Some, slice_set, refl, sym, ap, subst, inl, inr, ⊎_elim, arith, get_or-set_other, get_or-set_same, length-append, length-set}
use Rattle.std.specs.List.{slice_get, filter}
use Rattle.std.proofs.lemmas.Bool.{cases_lt, cases_order}
use Rattle.std.proofs.lemmas.List.Elements.{Contains-append_left, Contains-push, Contains-push_cases, filter-append}
use Rattle.std.proofs.lemmas.Option.{slice_get-get_or, slice_get_past}
use Rattle.als_seats.specs.declared.ask.Ask.{Ask}
use Rattle.als_seats.specs.declared.outcome.Outcome.{Outcome}
use Rattle.als_seats.specs.declared.outcome.Outcome.TheVariants.{NotBegun}
use Rattle.als_seats.specs.Asks.{is_of}
use Rattle.als_seats.specs.Outcomes.{IsSame, IsNotBegun, RefusesFrom, Waits, TakesBack}

set-same : {X : Type 0} → (xs : List X) (i : ℕ) (x : X) → i < length xs → slice_get (slice_set xs i x) i ≡ Some x
set-same {X} xs i x lt =
    let within : i < length (slice_set xs i x) = omega (arith, length-set xs i x, lt) in
    slice_get-get_or (slice_set xs i x) i x within ∙ ap (λ (y : X). Some y) (get_or-set_same xs i x x lt)

set-other : {X : Type 0} → (xs : List X) (i j : ℕ) (x : X) → j ≢ i → slice_get (slice_set xs i x) j ≡ slice_get xs j
set-other {X} xs i j x ne = ⊎_elim
    (λ lt.
    let within : j < length (slice_set xs i x) = omega (arith, length-set xs i x, lt) in
    slice_get-get_or (slice_set xs i x) j x within ∙ (ap (λ (y : X). Some y) (get_or-set_other xs i j x x ne) ∙ sym (slice_get-get_or xs j x lt)))
    (λ le.
    let past : length (slice_set xs i x) ≤ j = omega (arith, length-set xs i x, le) in
    slice_get_past (slice_set xs i x) j past ∙ sym (slice_get_past xs j le))
    (cases_lt j (length xs))

same_or_not : (a b : ℕ) → (a ≡ b) ⊎ (a ≢ b)
same_or_not a b = ⊎_elim (λ e. inl e) (λ o. inr (λ e. ⊎_elim (λ lt. absurd (omega (arith, e, lt))) (λ gt. absurd (omega (arith, e, gt))) o)) (cases_order a b)

-- the question of one slot was not begun, and no other slot changed
abbrev pub IsOneNotBegun : {A : Type 0} → List (Outcome A) → List (Outcome A) → ℕ → Type 0
IsOneNotBegun old new at = (length new ≡ length old) × (at < length old → IsNotBegun new at) × ((k : ℕ) → k ≢ at → IsSame old new k)

pub one-not_begun : {A : Type 0} → (old new : List (Outcome A)) (at : ℕ) → (at < length old → new ≡ slice_set old at NotBegun) → (length old ≤ at → new ≡ old)
    → IsOneNotBegun old new at
one-not_begun {A} old new at within past = ⊎_elim
    (λ lt. subst (λ (l : List (Outcome A)). IsOneNotBegun old l at) (sym (within lt))
    (length-set old at NotBegun, (λ _. set-same old at NotBegun lt), λ k ne. set-other old at k NotBegun ne))
    (λ le. subst (λ (l : List (Outcome A)). IsOneNotBegun old l at) (sym (past le))
    (refl, (λ lt. absurd (omega (arith, lt, le))), λ k ne. refl))
    (cases_lt at (length old))

-- ---- refused from a slot on

-- the questions of the slots from one on, up to another, were not begun, and no other slot changed
abbrev pub RefusesTo : {A : Type 0} → ℕ → ℕ → List (Outcome A) → List (Outcome A) → Type 0
RefusesTo put end old new =
    (length new ≡ length old)
    × ((at : ℕ) → put ≤ at → at < end → at < length old → IsNotBegun new at)
    × ((at : ℕ) → (at < put) ⊎ (end ≤ at) → IsSame old new at)

pub refuses-none : {A : Type 0} → (put : ℕ) (old : List (Outcome A)) → RefusesTo put put old old
refuses-none put old = (refl, (λ at ge lt within. absurd (omega (arith, ge, lt))), λ at out. refl)

pub refuses-one : {A : Type 0} → (put end : ℕ) (old mid new : List (Outcome A)) → put ≤ end → RefusesTo put end old mid → IsOneNotBegun mid new end
    → RefusesTo put (end + 1) old new
refuses-one {A} put end old mid new le h one = (
  one.0 ∙ h.0,
  (λ at ge lt within. ⊎_elim
      (λ e. subst (λ (k : ℕ). IsNotBegun new k) (sym e) (one.1 (omega (arith, e, within, h.0))))
      (λ ne. one.2 at ne ∙ h.1 at ge (⊎_elim (λ below. below) (λ above. absurd (ne (omega (arith, above, lt)))) (cases_lt at end)) within)
      (same_or_not at end)),
  λ at out. one.2 at (λ e. ⊎_elim (λ lt. absurd (omega (arith, e, lt, le))) (λ ge. absurd (omega (arith, e, ge))) out)
      ∙ h.2 at (⊎_elim (λ lt. inl lt) (λ ge. inr (omega (arith, ge))) out),
)

pub refuses-all : {A : Type 0} → (put end : ℕ) (old new : List (Outcome A)) → length old ≤ end → RefusesTo put end old new → RefusesFrom put old new
refuses-all put end old new le h = (h.0, (λ at ge lt. h.1 at ge (omega (arith, le, lt)) lt), λ at lt. h.2 at (inl lt))

-- ---- taken back

-- a question that waits still does where there is one more
waits-more : {T : Type 0} → (seat at : ℕ) (asks : List (Ask T)) (ask : Ask T) → Waits seat at asks → Waits seat at (asks ++ ask ∷ [])
waits-more seat at asks ask w = (w.0, Contains-append_left asks (ask ∷ []) w.0 w.1, w.2, w.3)

pub takes-none : {T A : Type 0} → (seat : ℕ) (old : List (Outcome A)) → TakesBack {T = T} seat [] old old
takes-none seat old = (refl, (λ at within w. let none = w.1.1 in absurd (omega arith)), λ at not. refl)

-- a question of another seat changes nothing
pub takes-other : {T A : Type 0} → (seat : ℕ) (asks : List (Ask T)) (ask : Ask T) (old new : List (Outcome A)) → (ask.place.seat ≡ seat → ⊥)
    → TakesBack seat asks old new → TakesBack seat (asks ++ ask ∷ []) old new
takes-other {T} seat asks ask old new ne h = (
  h.0,
  (λ at within w. h.1 at within (⊎_elim (λ c. (w.0, c, w.2, w.3))
      (λ e. absurd (ne (ap (λ (a : Ask T). a.place.seat) e ∙ w.2)))
      (Contains-push_cases asks ask w.0 w.1))),
  λ at not. h.2 at (λ w. not (waits-more seat at asks ask w)),
)

-- one of the seat was not begun
pub takes-one : {T A : Type 0} → (seat : ℕ) (asks : List (Ask T)) (ask : Ask T) (old mid new : List (Outcome A)) → ask.place.seat ≡ seat
    → TakesBack seat asks old mid → IsOneNotBegun mid new ask.place.at → TakesBack seat (asks ++ ask ∷ []) old new
takes-one {T} seat asks ask old mid new is h one = (
  one.0 ∙ h.0,
  (λ at within w. ⊎_elim
      (λ e. subst (λ (k : ℕ). IsNotBegun new k) (sym e) (one.1 (omega (arith, e, within, h.0))))
      (λ ne. one.2 at ne ∙ h.1 at within (⊎_elim (λ c. (w.0, c, w.2, w.3))
      (λ e. absurd (ne (sym w.3 ∙ ap (λ (a : Ask T). a.place.at) (sym e))))
      (Contains-push_cases asks ask w.0 w.1)))
      (same_or_not at ask.place.at)),
  λ at not. one.2 at (λ e. not (ask, Contains-push asks ask, is, sym e)) ∙ h.2 at (λ w. not (waits-more seat at asks ask w)),
)

-- ---- how many are waited for

one_passes : {X : Type 0} → (p : X → Bool) (x : X) → p x ≡ true → length (filter p (x ∷ [])) ≡ 1
one_passes p x e = rw e refl

none_passes : {X : Type 0} → (p : X → Bool) (x : X) → p x ≡ false → length (filter p (x ∷ [])) ≡ 0
none_passes p x e = rw e refl

filter-length : {X : Type 0} → (p : X → Bool) (xs : List X) (x : X) → length (filter p (xs ++ x ∷ [])) ≡ length (filter p xs) + length (filter p (x ∷ []))
filter-length {X} p xs x = ap (λ (l : List X). length l) (filter-append p xs (x ∷ [])) ∙ length-append (filter p xs) (filter p (x ∷ []))

pub left-one : {T : Type 0} → (seat : ℕ) (asks : List (Ask T)) (ask : Ask T) (old mid new : ℕ) → is_of seat ask ≡ true
    → mid ≡ old - length (filter (is_of seat) asks) → new ≡ mid - 1 → new ≡ old - length (filter (is_of seat) (asks ++ ask ∷ []))
left-one seat asks ask old mid new is h one = omega (arith, h, one, filter-length (is_of seat) asks ask, one_passes (is_of seat) ask is)

pub left-other : {T : Type 0} → (seat : ℕ) (asks : List (Ask T)) (ask : Ask T) (old new : ℕ) → is_of seat ask ≡ false
    → new ≡ old - length (filter (is_of seat) asks) → new ≡ old - length (filter (is_of seat) (asks ++ ask ∷ []))
left-other seat asks ask old new is h = omega (arith, h, filter-length (is_of seat) asks ask, none_passes (is_of seat) ask is)
