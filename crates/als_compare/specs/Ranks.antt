-- Which of several nodes holds all that was answered.
use Rattle.std.specs.Prelude.{◌≡◌, ◌<◌, ◌⊎◌, ℕ, List, [], ◌∷◌, ◌++◌, nat_lt, if◌then◌else◌}
use Rattle.std.specs.Int.{w64, to_be_bytes}
use Rattle.als_compare.specs.declared.rank.Rank.{Rank}

-- the last of these seals that is at or below an end, or another number where there is none
abbrev pub last_below : ℕ → List ℕ → ℕ → ℕ
last_below none [] end = none
last_below none (seal ∷ rest) end = last_below (if nat_lt end seal then none else seal) rest end

-- the rank of a node with this history, of whose log all below the end is acknowledged: 0 where no seal is at or below that end
unfoldable pub rank_of : List ℕ → ℕ → Rank
rank_of seals end = record { seal = last_below 0 seals end; end = end }

-- the first one is above the second: by its seal, and where the seals are one by its end
abbrev pub IsAbove : Rank → Rank → Type 0
IsAbove a b = (b.seal < a.seal) ⊎ ((a.seal ≡ b.seal) × (b.end < a.end))

-- the letter R
abbrev pub rank_question_bytes : List ℕ
rank_question_bytes = 82 ∷ []

-- what is behind the first byte of a rank: the seal and the end
unfoldable pub rank_numbers : Rank → List ℕ
rank_numbers rank = to_be_bytes w64 rank.seal ++ to_be_bytes w64 rank.end

-- the letter R, and the rest
abbrev pub rank_bytes : Rank → List ℕ
rank_bytes rank = 82 ∷ rank_numbers rank
