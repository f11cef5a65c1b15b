-- The next page for which changes wait, by the flags.
use Rattle.std.proofs.Common.{◌≡◌, ℕ, zero, suc, ◌+◌, ◌-◌, ◌<◌, ◌≤◌, List, [], ◌∷◌, length, get_or, drop, Some, None, refl, sym, ap, ◌∙◌, inl, inr, eq-eqb, eqb-true, length-drop, arith}
use Rattle.std.specs.Prelude.{min}
use Rattle.std.proofs.lemmas.Bool.{cases_lt}
use Rattle.std.proofs.lemmas.List.{get_or-drop}
use Rattle.memchr.specs.Find.{Nowhere, NoneBefore, Passes, is_byte}
use Rattle.als_record.specs.declared.change.Change.{Change}
use Rattle.als_pool.specs.Queues.{pending_of, flags_of, IsNextFlag, WaitsFirst}
use Rattle.als_pool.proofs.QueueSteps.{flag-none, flag-some}

past-zero : (xs : List ℕ) (i : ℕ) → length xs ≤ i → get_or xs i 0 ≡ 0
past-zero [] i le = refl
past-zero (x ∷ xs) zero le = absurd (omega (arith, le))
past-zero (x ∷ xs) (suc i) le = past-zero xs i (omega (arith, le))

module _ (flags tail : List ℕ) (from : ℕ) (is : tail ≡ drop from flags) where
  at : (k : ℕ) → get_or tail k 0 ≡ get_or flags (from + k) 0
  at k = ap (λ (xs : List ℕ). get_or xs k 0) is ∙ get_or-drop from flags k 0

  len : length tail ≡ length flags - from
  len = ap (λ (xs : List ℕ). length xs) is ∙ length-drop from flags

  -- a flag that is set further on passes the test
  passes : (page : ℕ) → from ≤ page → get_or flags page 0 ≡ 1 → Passes (is_byte 1) tail (page - from)
  passes page le set =
      let back : from + (page - from) ≡ page = omega (arith, le) in
      eq-eqb (get_or tail (page - from) 0) 1 (at (page - from) ∙ ap (λ (k : ℕ). get_or flags k 0) back ∙ set)

  pub next_some : (found : ℕ) → NoneBefore (Passes (is_byte 1) tail) 0 (length tail) found × Passes (is_byte 1) tail found → IsNextFlag flags from (Some (from + found))
  next_some found (first, here) = (
    omega arith,
    omega (arith, first.high, len),
    sym (at found) ∙ eqb-true (get_or tail found 0) 1 here,
    λ other le lt set.
        let low : 0 ≤ other - from = omega arith in
        let high : other - from < found = omega (arith, le, lt) in
        first.before (other - from) low high (passes other le set),
  )

  pub next_none : Nowhere (Passes (is_byte 1) tail) 0 (length tail) → IsNextFlag flags from None
  next_none none page le set =
      elim (cases_lt page (length flags)) [
        | inl lt ↦
            let low : 0 ≤ page - from = omega arith in
            let high : page - from < length tail = omega (arith, le, lt, len) in
            none (page - from) low high (passes page le set)
        | inr past ↦ let zero-is : get_or flags page 0 ≡ 0 = past-zero flags page past in absurd (omega (arith, zero-is, set))
      ]

module _ (waits : List (List Change)) (flags : List ℕ) (from least : ℕ) (is : flags ≡ flags_of waits) (least-is : least ≡ min from (length flags)) where
  no-flag : (page : ℕ) → (get_or flags page 0 ≡ 1 → ⊥) → pending_of waits page ≡ []
  no-flag page none = flag-none waits page (λ set. none (ap (λ (xs : List ℕ). get_or xs page 0) is ∙ set))

  pub waits_some : (page : ℕ) → IsNextFlag flags least (Some page) → WaitsFirst waits from (Some page)
  waits_some page (le, lt, set, before) =
      let here = flag-some waits page (sym (ap (λ (xs : List ℕ). get_or xs page 0) is) ∙ set) in (
        omega (arith, le, lt, least-is),
        here.0,
        here.1,
        λ other le' lt'.
            let low : least ≤ other = omega (arith, le', least-is) in
            no-flag other (λ set'. before other low lt' set'),
      )

  pub waits_none : IsNextFlag flags least None → WaitsFirst waits from None
  waits_none none page le =
      let low : least ≤ page = omega (arith, le, least-is) in
      no-flag page (λ set. none page low set)
