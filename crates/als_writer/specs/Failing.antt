-- How asks that do not hold are kept in eight places.
use Rattle.std.specs.Prelude.{ℕ, ◌-◌, List, ◌++◌, length, replicate, None}
use Rattle.std.proofs.Common.{◌≡◌, ◌≤◌, arith}
use Rattle.als_writer.specs.declared.unmet.Unmet.{Unmet}

-- what a place has that shows none
abbrev pub nothing : Unmet
nothing = record { key = record { page = 0; slot = 0 }; image = None }

-- the eight places: these, and nothing behind them
abbrev pub kept_of : List Unmet → List Unmet
kept_of us = us ++ replicate (8 - length us) nothing

-- so many are within the places
pub count_within : (count : ℕ) (kept : List Unmet) → count ≤ 8 → length kept ≡ 8 → count ≤ length kept
count_within count kept most places = omega (arith, most, places)
