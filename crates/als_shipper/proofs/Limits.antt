-- A reader of which no more than a limit was taken, and what came had room below it.
use Rattle.std.proofs.Common.{◌≡◌, ℕ, ◌+◌, ◌≤◌, min, List, length, take, ◌∙◌, ap, arith, Option, Some, None, IfSome}
use Rattle.std.proofs.lemmas.List.{length-take, take_all}
use Rattle.std.specs.Option.{option_map}

-- what was taken is all, where it is shorter than what might have been
pub all_from_take : (limit : ℕ) (bytes got : List ℕ) → got ≡ take (limit + 1) bytes → length got ≤ limit → got ≡ bytes
all_from_take limit bytes got e short =
    let same : length got ≡ length (take (limit + 1) bytes) = ap length e in
    let size : length (take (limit + 1) bytes) ≡ min (limit + 1) (length bytes) = length-take (limit + 1) bytes in
    let few : length bytes ≤ limit + 1 = omega (arith, same, size, short) in
    e ∙ take_all (limit + 1) bytes few

-- the same of bytes that may not be known
pub whole_from_take : (limit : ℕ) (known : Option (List ℕ)) (got : List ℕ) → IfSome (option_map (take (limit + 1)) known) (λ xs. got ≡ xs) → length got ≤ limit → IfSome known (λ bytes. got ≡ bytes)
whole_from_take limit None got e short = tt
whole_from_take limit (Some bytes) got e short = all_from_take limit bytes got e short
