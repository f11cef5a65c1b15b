-- Decimal numbers in the texts of a request.
use Rattle.std.specs.Prelude.{ℕ, ◌+◌, ◌-◌, ◌*◌, Bool, nat_le, ◌&&◌, ◌==◌, List, length, fold, Option, Some, None, if◌then◌else◌}

abbrev pub is_digit : ℕ → Bool
is_digit c = nat_le 48 c && nat_le c 57

-- a number with one more digit; none where that is no digit, or past 64 bits
abbrev pub with_digit : Option ℕ → ℕ → Option ℕ
with_digit None c = None
with_digit (Some n) c = if is_digit c && nat_le (10 * n + (c - 48)) 18446744073709551615 then Some (10 * n + (c - 48)) else None

-- the number of at most 64 bits that these digits spell
abbrev pub number_of : List ℕ → Option ℕ
number_of text = if length text == 0 then None else fold with_digit (Some 0) text
