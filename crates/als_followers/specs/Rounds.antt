-- In which round a frame was sent.
use Rattle.std.specs.Prelude.{ℕ, Bool, true, false, List, [], ◌∷◌}

-- the round of the first frame that is without an answer, where each of them is known
abbrev pub answered_by : Bool → List ℕ → ℕ
answered_by true rounds = 0
answered_by false [] = 0
answered_by false (round ∷ rest) = round
