-- Which events a thread makes, as the tally shows it.
use Rattle.std.specs.Prelude.{◌≡◌, ◌==◌, ◌||◌, ℕ, Bool, false, List, [], ◌∷◌, slice_index}
use Rattle.als_engine.specs.declared.event.Event.{Event}
use Rattle.als_engine.specs.declared.event.Event.TheVariants as event
use Rattle.als_engine.specs.Tally.{place_of}

-- it is one of these events
abbrev pub is_one_of : Event → List Event → Bool
is_one_of event [] = false
is_one_of event (e ∷ es) = (place_of event == place_of e) || is_one_of event es

-- the tally of each event but these is the same
pub record AloneRaise (events : List Event) (old new : List ℕ) : Type 0 where
  pub others : (e : Event) → is_one_of e events ≡ false → slice_index new (place_of e) ≡ slice_index old (place_of e)

-- the events of a flusher
abbrev pub flush_events : List Event
flush_events = event.Flush ∷ event.SyncPages ∷ []

-- the events of a checkpointer
abbrev pub checkpoint_events : List Event
checkpoint_events = event.CkptBegin ∷ event.CkptBlock ∷ event.CkptPublish ∷ event.ControlSync ∷ []

-- the events of a forcer
abbrev pub force_events : List Event
force_events = event.LogWrite ∷ event.LogSync ∷ event.MarkWrite ∷ event.ControlSync ∷ []
