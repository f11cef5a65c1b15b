-- The number of a place: the places of each seat lie side by side.
use Rattle.std.specs.Prelude.{ℕ, ◌+◌, ◌*◌}
use Rattle.als_seats.specs.declared.place.Place.{Place}

-- a seat has 600 places
abbrev pub number_of : Place → ℕ
number_of p = 600 * p.seat + p.at
