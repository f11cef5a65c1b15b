-- The number that digits spell.
use Rattle.std.specs.Prelude.{◌≡◌, ℕ, List, length, take, fold, Option, Some, None, Bool, false, ◌==◌, if◌then◌else◌}
use Rattle.std.proofs.Common.{sym, ap, ◌∙◌, arith}
use Rattle.std.proofs.lemmas.List.{take_all}
use Rattle.als_keys.specs.Numbers.{with_digit, number_of}

pub number_taken : (text : List ℕ) (so_far : Option ℕ) → so_far ≡ fold with_digit (Some 0) (take (length text) text)
    → (length text == 0) ≡ false → so_far ≡ number_of text
number_taken text so_far h some =
    h ∙ ap (fold with_digit (Some 0)) (take_all (length text) text (omega arith)) ∙ sym (ap (λ (b : Bool). if b then None else fold with_digit (Some 0) text) some)
