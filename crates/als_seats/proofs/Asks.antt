-- Questions that are put one after another.
use Rattle.std.proofs.Common.{◌≡◌, ◌∙◌, ℕ, suc, ◌+◌, List, [], ◌∷◌, ◌++◌, length, take, sym, ap, append_assoc, arith}
use Rattle.std.proofs.Math.Seq.{take-append_seam}
use Rattle.als_seats.specs.declared.ask.Ask.{Ask}
use Rattle.als_seats.specs.Asks.{asks_of}

-- one more question has the next place
pub asks-snoc : {T : Type 0} → (seat at : ℕ) (xs : List T) (x : T)
    → asks_of seat at (xs ++ x ∷ []) ≡ asks_of seat at xs ++ record { place = record { seat = seat; at = at + length xs }; question = x } ∷ []
asks-snoc seat at [] x = ap (λ (k : ℕ). record { place = record { seat = seat; at = k }; question = x } ∷ []) (omega arith)
asks-snoc {T} seat at (y ∷ ys) x =
    let place : suc at + length ys ≡ at + suc (length ys) = omega arith in
    ap (λ (zs : List (Ask T)). record { place = record { seat = seat; at = at }; question = y } ∷ zs)
    (asks-snoc seat (suc at) ys x
    ∙ ap (λ (k : ℕ). asks_of seat (suc at) ys ++ record { place = record { seat = seat; at = k }; question = x } ∷ []) place)

-- it waits behind those before it
pub put-more : {T : Type 0} → (seat n : ℕ) (old now : List (Ask T)) (ys : List T) (x : T) → now ≡ old ++ asks_of seat 0 ys → n ≡ length ys
    → now ++ record { place = record { seat = seat; at = n }; question = x } ∷ [] ≡ old ++ asks_of seat 0 (ys ++ x ∷ [])
put-more {T} seat n old now ys x before count =
    let one : List (Ask T) = record { place = record { seat = seat; at = n }; question = x } ∷ [] in
    let place : n ≡ 0 + length ys = omega (arith, count) in
    ap (λ (zs : List (Ask T)). zs ++ one) before
    ∙ append_assoc old (asks_of seat 0 ys) one
    ∙ ap (λ (k : ℕ). old ++ (asks_of seat 0 ys ++ record { place = record { seat = seat; at = k }; question = x } ∷ [])) place
    ∙ ap (λ (zs : List (Ask T)). old ++ zs) (sym (asks-snoc seat 0 ys x))

-- those that were put are the first ones
pub put-first : {T : Type 0} → (seat n : ℕ) (old now : List (Ask T)) (ys rest all : List T) → now ≡ old ++ asks_of seat 0 ys → n ≡ length ys → ys ++ rest ≡ all
    → now ≡ old ++ asks_of seat 0 (take n all)
put-first {T} seat n old now ys rest all before count whole =
    before ∙ ap (λ (zs : List T). old ++ asks_of seat 0 zs) (sym (ap (λ (k : ℕ). take k all) count ∙ ap (λ (zs : List T). take (length ys) zs) (sym whole) ∙ take-append_seam ys rest))
