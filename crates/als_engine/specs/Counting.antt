-- The tally that a list of events stands for.
use Rattle.std.specs.Prelude.{ℕ, List}
use Rattle.als_engine.specs.declared.told.Told.{Told}
use Rattle.als_engine.specs.declared.told.Told.TheVariants.{Nothing, Then'}
use Rattle.als_engine.specs.Tally.{place_of, no_events, raised}

-- each event adds to its number
abbrev pub tally_of : Told → List ℕ
tally_of Nothing = no_events
tally_of (Then' mark before made by) = raised (place_of made) by (tally_of before)
