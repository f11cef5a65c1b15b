-- Whether a person knows how many commits are lost.
use Rattle.std.specs.Prelude.{ℕ, ◌==◌, ◌||◌, Bool, Option, Some, None}

-- the number that was said, 0 where none was
abbrev pub named_number : Option ℕ → ℕ
named_number None = 0
named_number (Some count) = count

-- none is lost, or just as many as was said
abbrev pub is_agreed : ℕ → Option ℕ → Bool
is_agreed lost named = (lost == 0) || (named_number named == lost)
