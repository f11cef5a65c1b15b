-- Tallies, place by place.
use Rattle.std.proofs.Common.{◌≡◌, ℕ, ◌+◌, List, [], ◌∷◌, ap₂, arith}

-- a number from which nothing was taken, and the same rest
pub cons-same : (x y : ℕ) (xs ys : List ℕ) → x + 0 ≡ y → xs ≡ ys → x ∷ xs ≡ y ∷ ys
cons-same x y xs ys one rest = let same : x ≡ y = omega (arith, one) in ap₂ (λ (a : ℕ) (ns : List ℕ). a ∷ ns) same rest
