-- How often each event answered Ok since the tally was started; of feed, how many bytes it took.
use Rattle.std.specs.Prelude.{◌≡◌, ℕ, zero, suc, ◌+◌, List, [], ◌∷◌, Result, Ok, Err}
use Rattle.als_engine.specs.declared.event.Event.{Event}
use Rattle.als_engine.specs.declared.event.Event.TheVariants as event
use Rattle.als_engine.specs.declared.fault.Fault.{Fault}
use Rattle.als_engine.specs.declared.fed.Fed.{Fed}
use Rattle.als_engine.specs.declared.fed.FeedFault.{FeedFault}

-- the place of an event's number in a tally
abbrev pub place_of : Event → ℕ
place_of event.Feed = 0
place_of event.Resync = 1
place_of event.Lend = 2
place_of event.Give = 3
place_of event.Recall = 4
place_of event.Flush = 5
place_of event.SyncPages = 6
place_of event.LogWrite = 7
place_of event.LogSync = 8
place_of event.MarkWrite = 9
place_of event.ControlSync = 10
place_of event.CkptBegin = 11
place_of event.CkptBlock = 12
place_of event.CkptPublish = 13
place_of event.PublishView = 14
place_of event.Ready = 15
place_of event.Seal = 16
place_of event.UndoOne = 17
place_of event.Finish = 18
place_of event.Resolve = 19
place_of event.Adopt = 20

-- no event was made
abbrev pub no_events : List ℕ
no_events =
    0 ∷ 0 ∷ 0 ∷ 0 ∷ 0 ∷ 0 ∷ 0 ∷ 0 ∷ 0 ∷ 0 ∷ 0 ∷ 0 ∷ 0 ∷ 0 ∷ 0 ∷ 0 ∷ 0 ∷ 0 ∷ 0 ∷ 0 ∷ 0 ∷ []

-- a tally with one of its numbers raised
abbrev pub raised : ℕ → ℕ → List ℕ → List ℕ
raised place by [] = []
raised zero by (x ∷ xs) = (x + by) ∷ xs
raised (suc place) by (x ∷ xs) = x ∷ raised place by xs

-- an event that answers Ok is counted, a refused one is not
abbrev pub counted_ok : {A B : Type 0} → ℕ → Result A B → List ℕ → List ℕ
counted_ok place (Ok a) tally = raised place 1 tally
counted_ok place (Err b) tally = tally

-- how many bytes a feed took, refused or not
abbrev pub taken_of : Result Fed FeedFault → ℕ
taken_of (Ok fed) = fed.taken
taken_of (Err refusal) = refusal.taken

-- this event alone is counted, where it answers Ok
abbrev pub TellsOk : {A B : Type 0} → Event → Result A B → List ℕ → List ℕ → Type 0
TellsOk made result old new = new ≡ counted_ok (place_of made) result old

-- the bytes that a feed took are counted, and no other event
abbrev pub TellsTaken : Result Fed FeedFault → List ℕ → List ℕ → Type 0
TellsTaken result old new = new ≡ raised (place_of event.Feed) (taken_of result) old
