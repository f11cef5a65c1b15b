-- Laws of histories, for proofs of other crates too.
use Rattle.std.proofs.Common.{◌≡◌, ℕ, suc, ◌≤◌, ◌<◌, ◌+◌, ◌^◌, List, [], ◌∷◌, ◌++◌, length, Option, Some, None, refl, sym, ap, subst, ◌∙◌, inl, inr, arith, append_assoc, append-nil, length-append}
use Rattle.std.specs.Prelude.{◌⊎◌, slice_get}
use Rattle.als_epochs.specs.Histories.{RisesFrom, last_from, last_seal, GoesOn, next_seal, IsHistory, Takes}

-- ---- fronts

pub GoesOn-refl : (xs : List ℕ) → GoesOn xs xs
GoesOn-refl xs = ([], sym (append-nil xs))

pub GoesOn-trans : (xs ys zs : List ℕ) → GoesOn xs ys → GoesOn ys zs → GoesOn xs zs
GoesOn-trans xs ys zs (more, is) (rest, then) =
    (more ++ rest, then ∙ ap (λ (v : List ℕ). v ++ rest) is ∙ append_assoc xs more rest)

pub GoesOn-push : (xs : List ℕ) (y : ℕ) → GoesOn xs (xs ++ y ∷ [])
GoesOn-push xs y = (y ∷ [], refl)

pub GoesOn-length : (xs ys : List ℕ) → GoesOn xs ys → length xs ≤ length ys
GoesOn-length xs ys (rest, is) =
    let len : length ys ≡ length xs + length rest = ap length is ∙ length-append xs rest in
    omega (arith, len)

-- ---- the seal behind a front

pub next_seal-behind : (xs ys rest : List ℕ) → ys ≡ xs ++ rest → next_seal xs ys ≡ slice_get rest 0
next_seal-behind [] ys rest is = ap (λ (v : List ℕ). slice_get v 0) is
next_seal-behind (x ∷ xs) ys rest is =
    ap (λ (v : List ℕ). slice_get v (suc (length xs))) is ∙ next_seal-behind xs (xs ++ rest) rest refl

-- no seal is behind the whole history
pub next_seal-whole : (xs : List ℕ) → next_seal xs xs ≡ None
next_seal-whole xs = next_seal-behind xs xs [] (sym (append-nil xs))

-- a history and a front of it have the same seal behind a shorter front
pub next_seal-longer : (xs ys zs : List ℕ) → GoesOn xs ys → GoesOn ys zs → (ys ≡ xs) ⊎ (next_seal xs zs ≡ next_seal xs ys)
next_seal-longer xs ys zs ([], is) then = inl (is ∙ append-nil xs)
next_seal-longer xs ys zs (y ∷ more, is) (rest, then) =
    let whole : zs ≡ xs ++ ((y ∷ more) ++ rest) = then ∙ ap (λ (v : List ℕ). v ++ rest) is ∙ append_assoc xs (y ∷ more) rest in
    inr (next_seal-behind xs zs ((y ∷ more) ++ rest) whole ∙ sym (next_seal-behind xs ys (y ∷ more) is))

-- ---- rising lists

-- the last is no smaller than the bound
pub RisesFrom-last : (low : ℕ) (xs : List ℕ) → RisesFrom low xs → low ≤ last_from low xs
RisesFrom-last low [] rises = omega arith
RisesFrom-last low (x ∷ xs) rises =
    let first : low ≤ x = rises.0 in
    let rest : x ≤ last_from x xs = RisesFrom-last x xs rises.1 in
    omega (arith, first, rest)

pub RisesFrom-push : (low : ℕ) (xs : List ℕ) (y : ℕ) → RisesFrom low xs → last_from low xs ≤ y → RisesFrom low (xs ++ y ∷ [])
RisesFrom-push low [] y rises le = (le, tt)
RisesFrom-push low (x ∷ xs) y rises le = (rises.0, RisesFrom-push x xs y rises.1 le)

pub last_from-push : (low : ℕ) (xs : List ℕ) (y : ℕ) → last_from low (xs ++ y ∷ []) ≡ y
last_from-push low [] y = refl
last_from-push low (x ∷ xs) y = last_from-push x xs y

-- the parts of a rising list
pub RisesFrom-parts : (low : ℕ) (xs ys : List ℕ) → RisesFrom low (xs ++ ys) → RisesFrom low xs × RisesFrom (last_from low xs) ys
RisesFrom-parts low [] ys rises = (tt, rises)
RisesFrom-parts low (x ∷ xs) ys rises =
    let parts : RisesFrom x xs × RisesFrom (last_from x xs) ys = RisesFrom-parts x xs ys rises.1 in
    ((rises.0, parts.0), parts.1)

pub RisesFrom-joined : (low : ℕ) (xs ys : List ℕ) → RisesFrom low xs → RisesFrom (last_from low xs) ys → RisesFrom low (xs ++ ys)
RisesFrom-joined low [] ys front rest = rest
RisesFrom-joined low (x ∷ xs) ys front rest = (front.0, RisesFrom-joined x xs ys front.1 rest)

-- a smaller bound
pub RisesFrom-lower : (low high : ℕ) (xs : List ℕ) → low ≤ high → RisesFrom high xs → RisesFrom low xs
RisesFrom-lower low high [] le rises = tt
RisesFrom-lower low high (x ∷ xs) le rises =
    let first : high ≤ x = rises.0 in
    (omega (arith, le, first), rises.1)

-- a bound that the first number is not below
pub RisesFrom-above : (low : ℕ) (x : ℕ) (xs : List ℕ) → low ≤ x → RisesFrom 0 (x ∷ xs) → RisesFrom low (x ∷ xs)
RisesFrom-above low x xs le rises = (le, rises.1)

-- ---- histories

pub IsHistory-empty : IsHistory []
IsHistory-empty = record { few = omega arith; rises = tt; wide = omega arith }

pub IsHistory-push : (xs : List ℕ) (y : ℕ) → IsHistory xs → Takes xs y → y < 2 ^ 64 → IsHistory (xs ++ y ∷ [])
IsHistory-push xs y h (room, le) fits =
    let len : length (xs ++ y ∷ []) ≡ length xs + 1 = length-append xs (y ∷ []) in
    let last : last_from 0 (xs ++ y ∷ []) ≡ y = last_from-push 0 xs y in
    record {
      few = omega (arith, len, room);
      rises = RisesFrom-push 0 xs y h.rises le;
      wide = omega (arith, last, fits);
    }

-- the seals of a history that stand in front of one of them
pub IsHistory-takes : (xs : List ℕ) (y : ℕ) (rest ys : List ℕ) → ys ≡ xs ++ y ∷ rest → IsHistory ys → Takes xs y
IsHistory-takes xs y rest ys is h =
    let parts : RisesFrom 0 xs × RisesFrom (last_from 0 xs) (y ∷ rest) = RisesFrom-parts 0 xs (y ∷ rest) (subst (RisesFrom 0) is h.rises) in
    let len : length ys ≡ length xs + length (y ∷ rest) = ap length is ∙ length-append xs (y ∷ rest) in
    let few : length ys ≤ 32 = h.few in
    (omega (arith, len, few), parts.1.0)

-- ---- a takeover

-- one more seal that is an LSN
pub RisesFrom-taken : (low : ℕ) (xs : List ℕ) (y : ℕ) → RisesFrom low xs → last_seal xs ≤ y → low ≤ y → RisesFrom low (xs ++ y ∷ [])
RisesFrom-taken low [] y rises le from = (from, tt)
RisesFrom-taken low (x ∷ xs) y rises le from = (rises.0, RisesFrom-push x xs y rises.1 le)

-- the history of a sealed node, by that before the seal
pub record IsSealed (before : List ℕ) (seal : ℕ) : Type 0 where
  pub history : IsHistory (before ++ seal ∷ [])
  pub lsns : RisesFrom 16 (before ++ seal ∷ [])
  pub last : last_seal (before ++ seal ∷ []) ≡ seal
  pub goes_on : GoesOn before (before ++ seal ∷ [])

pub sealed-history : (before : List ℕ) (seal : ℕ) → IsHistory before → RisesFrom 16 before → Takes before seal → 16 ≤ seal → seal < 2 ^ 64 → IsSealed before seal
sealed-history before seal h lsns takes low fits = record {
  history = IsHistory-push before seal h takes fits;
  lsns = RisesFrom-taken 16 before seal lsns takes.1 low;
  last = last_from-push 0 before seal;
  goes_on = GoesOn-push before seal;
}
