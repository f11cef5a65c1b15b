-- How a follower says which folder it is.
use Rattle.std.specs.Prelude.{ℕ, List, ◌∷◌}

-- the letter I, and the id
abbrev pub id_bytes : List ℕ → List ℕ
id_bytes id = 73 ∷ id
