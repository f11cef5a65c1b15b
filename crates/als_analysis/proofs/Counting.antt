-- Sums modulo 2^64.
use Rattle.std.proofs.Common.{◌≡◌, ℕ, ◌+◌, ◌-◌, ◌<◌, ◌%◌, ◌^◌, sym, ap, ◌∙◌, arith}
use Rattle.std.proofs.Math.Nat.{mod-add-mod, add-mod-mod, add-mod_right, mod-lt}

pub wrapped-add : (a b : ℕ) → (a % 2 ^ 64 + b % 2 ^ 64) % 2 ^ 64 ≡ (a + b) % 2 ^ 64
wrapped-add a b = mod-add-mod a (2 ^ 64) (b % 2 ^ 64) ∙ add-mod-mod a b (2 ^ 64)

taken : (a b : ℕ) → b < 2 ^ 64 → ((a + b) % 2 ^ 64 + (2 ^ 64 - b)) % 2 ^ 64 ≡ a % 2 ^ 64
taken a b lt =
    let back : a + b + (2 ^ 64 - b) ≡ a + 2 ^ 64 = omega arith in
    mod-add-mod (a + b) (2 ^ 64) (2 ^ 64 - b) ∙ ap (λ n. n % 2 ^ 64) back ∙ add-mod_right a (2 ^ 64)

pub wrapped-sub : (a b : ℕ) → ((a + b) % 2 ^ 64 + (2 ^ 64 - b % 2 ^ 64)) % 2 ^ 64 ≡ a % 2 ^ 64
wrapped-sub a b = ap (λ n. (n + (2 ^ 64 - b % 2 ^ 64)) % 2 ^ 64) (sym (add-mod-mod a b (2 ^ 64))) ∙ taken a (b % 2 ^ 64) (mod-lt b (omega arith))

-- a part of a sum replaced by another one, modulo 2^64
pub replaced : (others sum new before after reserve : ℕ) → sum ≡ others + before → new ≡ others + after → reserve ≡ sum % 2 ^ 64 → ((reserve + (2 ^ 64 - before % 2 ^ 64)) % 2 ^ 64 + after % 2 ^ 64) % 2 ^ 64 ≡ new % 2 ^ 64
replaced others sum new before after reserve s n r =
    ap (λ m. ((m + (2 ^ 64 - before % 2 ^ 64)) % 2 ^ 64 + after % 2 ^ 64) % 2 ^ 64) (r ∙ ap (λ m. m % 2 ^ 64) s)
    ∙ ap (λ m. (m + after % 2 ^ 64) % 2 ^ 64) (wrapped-sub others before)
    ∙ wrapped-add others after
    ∙ ap (λ m. m % 2 ^ 64) (sym n)
