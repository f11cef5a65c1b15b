-- The seal of a rank, and the order of ranks.
use Rattle.std.proofs.Common.{◌≡◌, ◌⊎◌, ℕ, zero, suc, ◌≤◌, ◌<◌, Bool, cond, List, [], ◌∷◌, length, get_or, refl, sym, ap, subst, ◌∙◌, arith, inl, inr, ⊎_elim, Contains}
use Rattle.std.specs.Prelude.{nat_lt}
use Rattle.std.proofs.lemmas.Bool.{cases_Bool, le-ltb, ltb-true, ltb-false}
use Rattle.als_epochs.specs.Histories.{RisesFrom}
use Rattle.als_epochs.specs.HistoryLaws.{RisesFrom-lower}
use Rattle.als_compare.specs.declared.rank.Rank.{Rank}
use Rattle.als_compare.specs.Ranks.{last_below, rank_of, IsAbove}

-- ---- which seal it is

-- a member, by recursion
abbrev Among : List ℕ → ℕ → Type 0
Among [] x = ⊥
Among (y ∷ ys) x = (y ≡ x) ⊎ Among ys x

among_at : (xs : List ℕ) (x : ℕ) (k : ℕ) → k < length xs → get_or xs k x ≡ x → Among xs x
among_at [] x k lt e = absurd (omega arith)
among_at (y ∷ ys) x zero lt e = inl e
among_at (y ∷ ys) x (suc k) lt e = inr (among_at ys x k (omega arith) e)

contains_of : (xs : List ℕ) (x : ℕ) → Among xs x → Contains xs x
contains_of [] x h = absurd h
contains_of (y ∷ ys) x (inl e) = (0, omega arith, e)
contains_of (y ∷ ys) x (inr m) = let h = contains_of ys x m in let lt = h.1 in (suc h.0, omega arith, h.2)

-- it is none below the one that it begins with
not_less : (none : ℕ) (xs : List ℕ) (end : ℕ) → RisesFrom none xs → none ≤ last_below none xs end
not_less none [] end rises = omega arith
not_less none (x ∷ xs) end rises =
    let low : none ≤ x = rises.0 in
    let P : Bool → Type 0 = λ b. none ≤ last_below (cond b none x) xs end in
    elim (cases_Bool (nat_lt end x)) [
      | inl above ↦ subst P (sym above) (not_less none xs end (RisesFrom-lower none x xs low rises.1))
      | inr within ↦
          let from : x ≤ last_below x xs end = not_less x xs end rises.1 in
          let all : none ≤ last_below x xs end = omega (arith, low, from) in subst P (sym within) all
    ]

none_greater : (none : ℕ) (xs : List ℕ) (end seal : ℕ) → RisesFrom none xs → Among xs seal → seal ≤ end → seal ≤ last_below none xs end
none_greater none [] end seal rises m within = absurd m
none_greater none (x ∷ xs) end seal rises (inl e) within =
    let P : Bool → Type 0 = λ b. seal ≤ last_below (cond b none x) xs end in
    let here : x ≤ end = omega (arith, e, within) in
    let from : x ≤ last_below x xs end = not_less x xs end rises.1 in
    let all : seal ≤ last_below x xs end = omega (arith, e, from) in subst P (sym (le-ltb end x here)) all
none_greater none (x ∷ xs) end seal rises (inr m) within =
    let P : Bool → Type 0 = λ b. seal ≤ last_below (cond b none x) xs end in
    elim (cases_Bool (nat_lt end x)) [
      | inl above ↦ subst P (sym above) (none_greater none xs end seal (RisesFrom-lower none x xs rises.0 rises.1) m within)
      | inr below ↦ subst P (sym below) (none_greater x xs end seal rises.1 m within)
    ]

pub greatest_seal : (seals : List ℕ) (end seal : ℕ) → RisesFrom 0 seals → Contains seals seal → seal ≤ end → seal ≤ (rank_of seals end).seal
unfolding rank_of
greatest_seal seals end seal rises h within = none_greater 0 seals end seal rises (among_at seals seal h.0 h.1 h.2) within

-- it is the one that it begins with, or one of them
is_own : (none : ℕ) (xs : List ℕ) (end : ℕ) → (last_below none xs end ≡ none) ⊎ (Among xs (last_below none xs end) × (last_below none xs end ≤ end))
is_own none [] end = inl refl
is_own none (x ∷ xs) end =
    let P : Bool → Type 0 = λ b.
    (last_below (cond b none x) xs end ≡ none) ⊎ (((x ≡ last_below (cond b none x) xs end) ⊎ Among xs (last_below (cond b none x) xs end)) × (last_below (cond b none x) xs end ≤ end)) in
    elim (cases_Bool (nat_lt end x)) [
      | inl above ↦ subst P (sym above) (⊎_elim (λ e. inl e) (λ (m : Among xs (last_below none xs end) × (last_below none xs end ≤ end)). inr (inr m.0, m.1)) (is_own none xs end))
      | inr within ↦ subst P (sym within) (inr (⊎_elim (λ e. (inl (sym e), same end x e (ltb-false end x within))) (λ (m : Among xs (last_below x xs end) × (last_below x xs end ≤ end)). (inr m.0, m.1)) (is_own x xs end)))
    ]
  where
    same : (end x : ℕ) {n : ℕ} → n ≡ x → x ≤ end → n ≤ end
    same end x e le = omega (arith, e, le)

pub own_seal : (seals : List ℕ) (end : ℕ) → ((rank_of seals end).seal ≡ 0) ⊎ (Contains seals (rank_of seals end).seal × ((rank_of seals end).seal ≤ end))
unfolding rank_of
own_seal seals end =
    ⊎_elim (λ e. inl e) (λ (m : Among seals (last_below 0 seals end) × (last_below 0 seals end ≤ end)). inr (contains_of seals (last_below 0 seals end) m.0, m.1)) (is_own 0 seals end)

-- ---- the order

same_numbers : (a b : Rank) → a.seal ≡ b.seal → a.end ≡ b.end → a ≡ b
same_numbers a b seals ends =
    let first : a ≡ record { seal = b.seal; end = a.end } = ap (λ (n : ℕ). let r : Rank = record { seal = n; end = a.end } in r) seals in
    first ∙ ap (λ (n : ℕ). let r : Rank = record { seal = b.seal; end = n } in r) ends

pub one_above : (a b : Rank) → IsAbove a b ⊎ ((a ≡ b) ⊎ IsAbove b a)
one_above a b =
    elim (cases_Bool (nat_lt b.seal a.seal)) [
      | inl more ↦ inl (inl (ltb-true b.seal a.seal more))
      | inr few ↦
          let low : a.seal ≤ b.seal = ltb-false b.seal a.seal few in
          elim (cases_Bool (nat_lt a.seal b.seal)) [
            | inl less ↦ inr (inr (inl (ltb-true a.seal b.seal less)))
            | inr same ↦
                let high : b.seal ≤ a.seal = ltb-false a.seal b.seal same in
                let one : a.seal ≡ b.seal = omega (arith, low, high) in by_end a b one
          ]
    ]
  where
    by_end : (a b : Rank) → a.seal ≡ b.seal → IsAbove a b ⊎ ((a ≡ b) ⊎ IsAbove b a)
    by_end a b one =
        elim (cases_Bool (nat_lt b.end a.end)) [
          | inl more ↦ inl (inr (one, ltb-true b.end a.end more))
          | inr few ↦
              let low : a.end ≤ b.end = ltb-false b.end a.end few in
              elim (cases_Bool (nat_lt a.end b.end)) [
                | inl less ↦ inr (inr (inr (sym one, ltb-true a.end b.end less)))
                | inr same ↦
                    let high : b.end ≤ a.end = ltb-false a.end b.end same in
                    let ends : a.end ≡ b.end = omega (arith, low, high) in inr (inl (same_numbers a b one ends))
              ]
        ]

pub not_both : (a b : Rank) → IsAbove a b → IsAbove b a → ⊥
not_both a b (inl m) (inl n) = omega (arith, m, n)
not_both a b (inl m) (inr (e, n)) = omega (arith, m, e)
not_both a b (inr (e, m)) (inl n) = omega (arith, e, n)
not_both a b (inr (e, m)) (inr (f, n)) = omega (arith, m, n)

pub above_above : (a b c : Rank) → IsAbove a b → IsAbove b c → IsAbove a c
above_above a b c (inl m) (inl n) = inl (omega (arith, m, n))
above_above a b c (inl m) (inr (e, n)) = inl (omega (arith, m, e))
above_above a b c (inr (e, m)) (inl n) = inl (omega (arith, e, n))
above_above a b c (inr (e, m)) (inr (f, n)) = inr (e ∙ f, omega (arith, m, n))
