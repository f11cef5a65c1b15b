-- One more ask that does not hold, in eight places.
use Rattle.std.proofs.Common.{◌≡◌, ℕ, suc, ◌+◌, ◌-◌, ◌<◌, ◌≤◌, List, [], ◌∷◌, ◌++◌, length, take, set, replicate, refl, sym, ap, subst, ◌∙◌, append_assoc, arith, take_all, length-take-le}
use Rattle.std.proofs.lemmas.List.{take_more_set, set_at, length_push}
use Rattle.als_writer.specs.declared.unmet.Unmet.{Unmet}
use Rattle.als_writer.specs.Failing.{nothing, kept_of}

-- of places of which these are shown, one more is shown in the next one
kept_next : (us : List Unmet) (c m : ℕ) (u : Unmet) → length us ≡ c → 8 - c ≡ suc m → set (kept_of us) c u ≡ kept_of (us ++ u ∷ [])
kept_next us c m u len left =
    let places : 8 - length us ≡ suc m = ap (λ (n : ℕ). 8 - n) len ∙ left in
    let fewer : 8 - length (us ++ u ∷ []) ≡ m = omega (arith, length_push us u, len, left) in
    ap (λ (n : ℕ). set (us ++ replicate n nothing) c u) places
    ∙ set_at us nothing (replicate m nothing) u c len
    ∙ sym (append_assoc us (u ∷ []) (replicate m nothing))
    ∙ ap (λ (n : ℕ). (us ++ u ∷ []) ++ replicate n nothing) (sym fewer)

pub kept_push : (kept : List Unmet) (c : ℕ) (u : Unmet) → c < 8 → length kept ≡ 8 → kept ≡ kept_of (take c kept) → set kept c u ≡ kept_of (take (c + 1) (set kept c u))
kept_push kept c u lt places is =
    let len : length (take c kept) ≡ c = length-take-le c kept (omega (arith, lt, places)) in
    let left : 8 - c ≡ suc (7 - c) = omega (arith, lt) in
    ap (λ (us : List Unmet). set us c u) is
    ∙ kept_next (take c kept) c (7 - c) u len left
    ∙ ap kept_of (sym (take_more_set kept c u (omega (arith, lt, places))))

pub shown_push : (kept : List Unmet) (c : ℕ) (u : Unmet) → c < 8 → length kept ≡ 8 → take (c + 1) (set kept c u) ≡ take 8 (take c kept ++ u ∷ [])
shown_push kept c u lt places =
    let len : length (take c kept) ≡ c = length-take-le c kept (omega (arith, lt, places)) in
    let few : length (take c kept ++ u ∷ []) ≤ 8 = omega (arith, length_push (take c kept) u, len, lt) in
    take_more_set kept c u (omega (arith, lt, places)) ∙ sym (take_all 8 (take c kept ++ u ∷ []) few)
