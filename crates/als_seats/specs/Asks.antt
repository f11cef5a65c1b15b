-- The questions of a seat, each with its place.
use Rattle.std.specs.Prelude.{ℕ, suc, List, [], ◌∷◌, Bool, not, nat_eq}
use Rattle.als_seats.specs.declared.ask.Ask.{Ask}

-- these questions of a seat have places side by side, from this one on
abbrev pub asks_of : {T : Type 0} → ℕ → ℕ → List T → List (Ask T)
asks_of seat at [] = []
asks_of seat at (q ∷ qs) = record { place = record { seat = seat; at = at }; question = q } ∷ asks_of seat (suc at) qs

-- whether a question is of this seat
abbrev pub is_of : {T : Type 0} → ℕ → Ask T → Bool
is_of seat ask = nat_eq ask.place.seat seat

-- whether a question is of another seat than this one
abbrev pub is_of_other : {T : Type 0} → ℕ → Ask T → Bool
is_of_other seat ask = not (is_of seat ask)
