-- The bytes of seals.
use Rattle.std.proofs.Common.{◌≡◌, ℕ, ◌+◌, ◌*◌, ◌<◌, ◌≤◌, ◌^◌, List, [], ◌∷◌, ◌++◌, length, take, drop, refl, sym, ap, ap₂, ◌∙◌, arith, append_assoc, length-append}
use Rattle.std.specs.Int.{w64, to_be_bytes, from_be_bytes}
use Rattle.std.proofs.lemmas.Nat.{from_be_bytes-to_be_bytes_8}
use Rattle.std.proofs.lemmas.List.{take_at, drop_at, flat_map_more}
use Rattle.als_epochs.specs.Histories.{seals_bytes, IsHistory, RisesFrom, Takes, last_from}
use Rattle.als_epochs.specs.HistoryLaws.{RisesFrom-last, IsHistory-takes}

-- two numbers of eight bytes, and what follows them
long_again : (m n : ℕ) (xs ys : List ℕ) → m < 2 ^ 64 → n < 2 ^ 64 → to_be_bytes w64 m ++ xs ≡ to_be_bytes w64 n ++ ys → (m ≡ n) × (xs ≡ ys)
long_again m n xs ys low high e =
    let bytes : to_be_bytes w64 m ≡ to_be_bytes w64 n = sym (take_at (to_be_bytes w64 m) xs 8 refl) ∙ ap (take 8) e ∙ take_at (to_be_bytes w64 n) ys 8 refl in (
      sym (from_be_bytes-to_be_bytes_8 m low) ∙ ap (from_be_bytes w64) bytes ∙ from_be_bytes-to_be_bytes_8 n high,
      sym (drop_at (to_be_bytes w64 m) xs 8 refl) ∙ ap (drop 8) e ∙ drop_at (to_be_bytes w64 n) ys 8 refl,
    )

-- eight bytes a seal
pub length-seals_bytes : (seals : List ℕ) → length (seals_bytes seals) ≡ 8 * length seals
length-seals_bytes [] = refl
length-seals_bytes (x ∷ xs) =
    let rest = length-seals_bytes xs in
    omega (arith, rest)

-- the seals of a rising list are numbers of 64 bits where the last one is
wide-head : (low x : ℕ) (xs : List ℕ) → RisesFrom low (x ∷ xs) → last_from low (x ∷ xs) < 2 ^ 64 → x < 2 ^ 64
wide-head low x xs rises wide =
    let le : x ≤ last_from x xs = RisesFrom-last x xs rises.1 in
    omega (arith, le, wide)

-- bytes are those of one list of so many seals, and of what follows them
pub seals-again : (low high : ℕ) (xs ys a b : List ℕ) → RisesFrom low xs → last_from low xs < 2 ^ 64 → RisesFrom high ys → last_from high ys < 2 ^ 64
    → length xs ≡ length ys → seals_bytes xs ++ a ≡ seals_bytes ys ++ b → (xs ≡ ys) × (a ≡ b)
seals-again low high [] [] a b rx wx ry wy len e = (refl, e)
seals-again low high [] (y ∷ ys) a b rx wx ry wy len e = absurd cc
seals-again low high (x ∷ xs) [] a b rx wx ry wy len e = absurd cc
seals-again low high (x ∷ xs) (y ∷ ys) a b rx wx ry wy len e =
    let regrouped : to_be_bytes w64 x ++ (seals_bytes xs ++ a) ≡ to_be_bytes w64 y ++ (seals_bytes ys ++ b) =
    sym (append_assoc (to_be_bytes w64 x) (seals_bytes xs) a) ∙ e ∙ append_assoc (to_be_bytes w64 y) (seals_bytes ys) b in
    let first : (x ≡ y) × (seals_bytes xs ++ a ≡ seals_bytes ys ++ b) =
    long_again x y (seals_bytes xs ++ a) (seals_bytes ys ++ b) (wide-head low x xs rx wx) (wide-head high y ys ry wy) regrouped in
    let rest : (xs ≡ ys) × (a ≡ b) = seals-again x y xs ys a b rx.1 wx ry.1 wy (omega (arith, len)) first.1 in
    (ap₂ (λ (n : ℕ) (v : List ℕ). n ∷ v) first.0 rest.0, rest.1)

-- the bytes of fewer seals than there are, and one more, are those of the front
pub seal-next : (low high : ℕ) (front ys : List ℕ) (seal : ℕ) (a b : List ℕ) → RisesFrom low front → last_from low front < 2 ^ 64 → RisesFrom high ys → last_from high ys < 2 ^ 64
    → seal < 2 ^ 64 → length front < length ys → seals_bytes front ++ (to_be_bytes w64 seal ++ a) ≡ seals_bytes ys ++ b
    → (rest : List ℕ) × (ys ≡ front ++ seal ∷ rest)
seal-next low high front [] seal a b rf wf ry wy fits len e = absurd (omega (arith, len))
seal-next low high [] (y ∷ ys) seal a b rf wf ry wy fits len e =
    let first : (seal ≡ y) × (a ≡ seals_bytes ys ++ b) =
    long_again seal y a (seals_bytes ys ++ b) fits (wide-head high y ys ry wy) (e ∙ append_assoc (to_be_bytes w64 y) (seals_bytes ys) b) in
    (ys, ap (λ (n : ℕ). n ∷ ys) (sym first.0))
seal-next low high (x ∷ front) (y ∷ ys) seal a b rf wf ry wy fits len e =
    let behind = to_be_bytes w64 seal ++ a in
    let regrouped : to_be_bytes w64 x ++ (seals_bytes front ++ behind) ≡ to_be_bytes w64 y ++ (seals_bytes ys ++ b) =
    sym (append_assoc (to_be_bytes w64 x) (seals_bytes front) behind) ∙ e ∙ append_assoc (to_be_bytes w64 y) (seals_bytes ys) b in
    let first : (x ≡ y) × (seals_bytes front ++ behind ≡ seals_bytes ys ++ b) =
    long_again x y (seals_bytes front ++ behind) (seals_bytes ys ++ b) (wide-head low x front rf wf) (wide-head high y ys ry wy) regrouped in
    let (rest, is) = seal-next x y front ys seal a b rf.1 wf ry.1 wy fits (omega (arith, len)) first.1 in
    (rest, ap₂ (λ (n : ℕ) (v : List ℕ). n ∷ v) (sym first.0) is)

-- and that one may follow it
pub next-taken : (front ys : List ℕ) (seal : ℕ) (a b bytes : List ℕ) → IsHistory front → IsHistory ys → seal < 2 ^ 64 → length front < length ys
    → seals_bytes front ++ (to_be_bytes w64 seal ++ a) ≡ bytes → bytes ≡ seals_bytes ys ++ b → Takes front seal
next-taken front ys seal a b bytes hf hy fits len told spelled =
    let (rest, is) = seal-next 0 0 front ys seal a b hf.rises hf.wide hy.rises hy.wide fits len (told ∙ spelled) in
    IsHistory-takes front seal rest ys is hy

-- one more seal, read from the bytes that are left
pub seals-more : (front : List ℕ) (seal : ℕ) (first after rest bytes : List ℕ) → to_be_bytes w64 seal ≡ first → rest ≡ first ++ after → seals_bytes front ++ rest ≡ bytes
    → seals_bytes (front ++ seal ∷ []) ++ after ≡ bytes
seals-more front seal first after rest bytes spelled split told =
    let pushed : seals_bytes front ++ to_be_bytes w64 seal ≡ seals_bytes (front ++ seal ∷ []) = flat_map_more (to_be_bytes w64) [] front seal in
    ap (λ (v : List ℕ). v ++ after) (sym pushed)
    ∙ append_assoc (seals_bytes front) (to_be_bytes w64 seal) after
    ∙ ap (λ (v : List ℕ). seals_bytes front ++ (v ++ after)) spelled
    ∙ ap (λ (v : List ℕ). seals_bytes front ++ v) (sym split)
    ∙ told

-- so many seals, and what follows them
pub seals-all : (history bytes rest : List ℕ) (epoch : ℕ) → length history ≡ epoch → seals_bytes history ++ rest ≡ bytes → take (8 * epoch) bytes ≡ seals_bytes history
seals-all history bytes rest epoch len told =
    let size : length (seals_bytes history) ≡ 8 * epoch = length-seals_bytes history ∙ ap (λ (n : ℕ). 8 * n) len in
    ap (take (8 * epoch)) (sym told) ∙ take_at (seals_bytes history) rest (8 * epoch) size

-- they are those of one history
pub history-again : (xs ys a b bytes : List ℕ) → IsHistory xs → IsHistory ys → length xs ≡ length ys → seals_bytes xs ++ a ≡ bytes → bytes ≡ seals_bytes ys ++ b → xs ≡ ys
history-again xs ys a b bytes hx hy len told spelled =
    (seals-again 0 0 xs ys a b hx.rises hx.wide hy.rises hy.wide len (told ∙ spelled)).0

-- as long as not all are read, there are eight bytes more
pub seals-left : (history bytes rest : List ℕ) (epoch : ℕ) → length history < epoch → 8 * epoch ≤ length bytes → seals_bytes history ++ rest ≡ bytes → 8 ≤ length rest
seals-left history bytes rest epoch below size told =
    let len : length bytes ≡ length (seals_bytes history) + length rest = ap length (sym told) ∙ length-append (seals_bytes history) rest in
    omega (arith, len, length-seals_bytes history, below, size)
