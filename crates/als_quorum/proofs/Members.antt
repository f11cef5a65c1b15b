-- What stands in a list, by recursion; and a list of different values is no longer than one that has them all.
use Rattle.std.proofs.Common.{◌≡◌, ◌<◌, ◌≤◌, ◌⊎◌, ◌∙◌, ℕ, zero, suc, List, [], ◌∷◌, length, map, get_or, refl, sym, ap, subst, inl, inr, ⊎_elim, arith, Contains}
use Rattle.als_quorum.specs.declared.name.Name.{Name}
use Rattle.als_quorum.specs.Enough.{AreDifferent}

-- x is one of them
abbrev pub Among : {X : Type 0} → List X → X → Type 0
Among [] x = ⊥
Among (y ∷ ys) x = (y ≡ x) ⊎ Among ys x

among_at : {X : Type 0} → (xs : List X) (x : X) (k : ℕ) → k < length xs → get_or xs k x ≡ x → Among xs x
among_at [] x k lt e = absurd (omega arith)
among_at (y ∷ ys) x zero lt e = inl e
among_at (y ∷ ys) x (suc k) lt e = inr (among_at ys x k (omega arith) e)

pub among_of : {X : Type 0} → (xs : List X) (x : X) → Contains xs x → Among xs x
among_of xs x h = among_at xs x h.0 h.1 h.2

pub contains_of : {X : Type 0} → (xs : List X) (x : X) → Among xs x → Contains xs x
contains_of [] x h = absurd h
contains_of (y ∷ ys) x (inl e) = (0, omega arith, e)
contains_of (y ∷ ys) x (inr m) = let h = contains_of ys x m in let lt = h.1 in (suc h.0, omega arith, h.2)

-- what a function makes of a member is among what it makes of all
pub among_map : {X Y : Type 0} → (f : X → Y) (xs : List X) (x : X) → Among xs x → Among (map f xs) (f x)
among_map f [] x h = h
among_map f (y ∷ ys) x (inl e) = inl (ap f e)
among_map f (y ∷ ys) x (inr m) = inr (among_map f ys x m)

-- and nothing else is
pub among_from_map : {X Y : Type 0} → (f : X → Y) (xs : List X) (z : Y) → Among (map f xs) z → (x : X) × Among xs x × (f x ≡ z)
among_from_map f [] z h = absurd h
among_from_map f (y ∷ ys) z (inl e) = (y, inl refl, e)
among_from_map f (y ∷ ys) z (inr m) = let r = among_from_map f ys z m in (r.0, inr r.1, r.2)

-- a member can be taken out of a list: all others stay
without : {X : Type 0} → (ys : List X) (x : X) → Among ys x → (left : List X) × (suc (length left) ≡ length ys) × ((z : X) → Among ys z → (z ≡ x) ⊎ Among left z)
without [] x h = absurd h
without (y ∷ ys) x (inl e) = (ys, refl, λ z h. ⊎_elim (λ f. inl (sym f ∙ e)) (λ m. inr m) h)
without (y ∷ ys) x (inr m) =
    let r = without ys x m in
    (y ∷ r.0, ap suc r.1, λ z h. ⊎_elim (λ f. inr (inl f)) (λ n. ⊎_elim (λ f. inl f) (λ k. inr (inr k)) (r.2 z n)) h)

pub length-different : (xs ys : List Name) → AreDifferent xs → ((x : Name) → Among xs x → Among ys x) → length xs ≤ length ys
length-different [] ys d s = omega arith
length-different (x ∷ xs) ys d s =
    let r = without ys x (s x (inl refl)) in
    let shorter : length xs ≤ length r.0 = length-different xs r.0 d.1
    (λ z m. ⊎_elim (λ e. absurd (d.0 (contains_of xs x (subst (Among xs) e m)))) (λ k. k) (r.2 z (s z (inr m)))) in
    let longer = r.1 in omega arith
