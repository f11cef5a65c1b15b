-- A history as it is kept is that of its seals: the view forgets nothing.
use Rattle.std.proofs.Common.{◌≡◌, ℕ, ◌-◌, List, ◌++◌, length, take, replicate, sym, ap, ap₂, ◌∙◌, arith, length-take, take-append-drop}
use Rattle.als_epochs.specs.declared.history.History.TheInside.{Inside}
use Rattle.als_epochs.specs.Kept.{IsKept, array_of}

length-kept : (h : Inside) → IsKept h.epoch h.seals → length (take h.epoch h.seals) ≡ h.epoch
length-kept h kept = omega (arith, length-take h.epoch h.seals, kept.size, kept.few)

array-kept : (h : Inside) → IsKept h.epoch h.seals → array_of (take h.epoch h.seals) ≡ h.seals
array-kept h kept =
    ap (λ (n : ℕ). take h.epoch h.seals ++ replicate (32 - n) 0) (length-kept h kept)
    ∙ ap (λ (xs : List ℕ). take h.epoch h.seals ++ xs) (sym kept.unused)
    ∙ take-append-drop h.epoch h.seals

pub inverse-kept : (h : Inside) → IsKept h.epoch h.seals
    → ◌≡◌ {A = Inside} (record { epoch = length (take h.epoch h.seals); seals = array_of (take h.epoch h.seals) }) h
inverse-kept h kept =
    let made : ℕ → List ℕ → Inside = λ epoch seals. record { epoch = epoch; seals = seals } in
    ap₂ made (length-kept h kept) (array-kept h kept)
