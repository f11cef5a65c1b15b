-- How a kept history changes.
use Rattle.std.proofs.Common.{◌≡◌, ℕ, zero, suc, ◌+◌, ◌-◌, ◌<◌, ◌≤◌, ◌^◌, List, [], ◌∷◌, ◌++◌, length, take, drop, set, replicate, get_or, refl, sym, ap, subst, ◌∙◌, arith, length-take, length-set}
use Rattle.std.proofs.lemmas.List.{take_more_set, drop-set-lt, drop-drop, get_or-take}
use Rattle.als_epochs.specs.Histories.{RisesFrom, last_from, last_seal, IsHistory, Takes}
use Rattle.als_epochs.specs.HistoryLaws.{IsHistory-push}
use Rattle.als_epochs.specs.Kept.{IsKept}

-- the last of a list, by its place
last_from-at : (low : ℕ) (xs : List ℕ) (n : ℕ) → length xs ≡ suc n → last_from low xs ≡ get_or xs n 0
last_from-at low [] n len = absurd cc
last_from-at low (x ∷ []) zero len = refl
last_from-at low (x ∷ []) (suc n) len = absurd (omega (arith, len))
last_from-at low (x ∷ (y ∷ rest)) zero len = absurd (omega (arith, len))
last_from-at low (x ∷ (y ∷ rest)) (suc n) len = last_from-at x (y ∷ rest) n (omega (arith, len))

length-seals : (epoch : ℕ) (seals : List ℕ) → IsKept epoch seals → length (take epoch seals) ≡ epoch
length-seals epoch seals kept = omega (arith, length-take epoch seals, kept.size, kept.few)

pub last_seal-kept : (epoch : ℕ) (seals : List ℕ) → IsKept epoch seals → 0 < epoch → get_or seals (epoch - 1) 0 ≡ last_seal (take epoch seals)
last_seal-kept epoch seals kept some =
    let len : length (take epoch seals) ≡ suc (epoch - 1) = omega (arith, length-seals epoch seals kept, some) in
    let at : epoch - 1 < epoch = omega (arith, some) in
    sym (last_from-at 0 (take epoch seals) (epoch - 1) len ∙ get_or-take epoch seals (epoch - 1) 0 at)

-- the kept array after one more seal, as its seals
pub seals-push : (epoch : ℕ) (seals : List ℕ) (seal : ℕ) → IsKept epoch seals → length (take epoch seals) < 32 → take (epoch + 1) (set seals epoch seal) ≡ take epoch seals ++ seal ∷ []
seals-push epoch seals seal kept room = take_more_set seals epoch seal (omega (arith, length-seals epoch seals kept, room, kept.size))

-- the numbers behind the first of the zeros
abbrev zeros : ℕ → List ℕ
zeros n = replicate n 0

drop_one-replicate : (n : ℕ) → drop 1 (zeros n) ≡ zeros (n - 1)
drop_one-replicate zero = refl
drop_one-replicate (suc n) = let e : n ≡ suc n - 1 = omega arith in ap (λ (k : ℕ). zeros k) e

-- one more seal
pub IsKept-push : (epoch : ℕ) (seals : List ℕ) (seal : ℕ) → IsKept epoch seals → Takes (take epoch seals) seal → seal < 2 ^ 64
    → IsKept (epoch + 1) (set seals epoch seal)
IsKept-push epoch seals seal kept takes fits =
    let len = length-seals epoch seals kept in
    let below : epoch < length seals = omega (arith, len, takes.0, kept.size) in
    let front : take (epoch + 1) (set seals epoch seal) ≡ take epoch seals ++ seal ∷ [] = take_more_set seals epoch seal below in
    let back : drop (epoch + 1) (set seals epoch seal) ≡ drop (epoch + 1) seals = drop-set-lt (epoch + 1) seals epoch seal (omega arith) in
    let apart : drop (epoch + 1) seals ≡ drop 1 (drop epoch seals) = sym (drop-drop 1 epoch seals) in
    let rest : 32 - epoch - 1 ≡ 32 - (epoch + 1) = omega arith in
    record {
      size = length-set seals epoch seal ∙ kept.size;
      history = subst IsHistory (sym front) (IsHistory-push (take epoch seals) seal kept.history takes fits);
      few = omega (arith, len, takes.0);
      unused = back ∙ apart ∙ ap (drop 1) kept.unused ∙ drop_one-replicate (32 - epoch) ∙ ap zeros rest;
    }

-- a list that rises, by its first number
pub lsns-first : (xs : List ℕ) → RisesFrom 0 xs → 0 < length xs → (16 ≤ get_or xs 0 0 → RisesFrom 16 xs) × (RisesFrom 16 xs → 16 ≤ get_or xs 0 0)
lsns-first [] rises some = absurd (omega (arith, some))
lsns-first (x ∷ xs) rises some = (λ low. (low, rises.1), λ all. all.0)
