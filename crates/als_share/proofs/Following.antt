-- A run without events of a takeover goes on, and such events are not counted.
use Rattle.std.proofs.Common.{◌≡◌, ◌≢◌, ℕ, zero, suc, ◌+◌, ◌≤◌, ◌<◌, Bool, true, false, Option, Some, None, List, [], ◌∷◌, ◌++◌, refl, sym, ap, subst, ◌∙◌, arith}
use Rattle.std.specs.Prelude.{slice_index, Result, Ok, Err}
use Rattle.std.proofs.lemmas.Bool.{true≢false}
use Rattle.std.specs.List.{AllByRecursion}
use Rattle.als_lease.specs.Lease.{Leased}
use Rattle.als_engine.specs.declared.event.Event.{Event}
use Rattle.als_engine.specs.declared.event.Event.TheVariants as event
use Rattle.als_engine.specs.declared.fault.Fault.{Fault}
use Rattle.als_engine.specs.declared.fed.Fed.{Fed}
use Rattle.als_engine.specs.declared.fed.FeedFault.{FeedFault}
use Rattle.als_engine.specs.declared.not_given.NotGiven.{NotGiven}
use Rattle.als_engine.specs.declared.step.Step.{Step}
use Rattle.als_engine.specs.declared.step.Reply.{Reply}
use Rattle.als_engine.specs.Machine.{Machine}
use Rattle.als_engine.specs.Tally.{place_of, raised, taken_of, no_events, TellsOk, TellsTaken}
use Rattle.als_share.specs.Ledgers.{CountsNoTakeover}
use Rattle.als_share.specs.Reaching.{Makes, MakesLend, MakesGive, Asks, Begins, Goes, Lending, Giving, Queries, Reaches, ReachesFollowing, FollowsFrom, is_of_takeover}

-- no event of them is of a takeover
abbrev pub AreOther : List Step → Type 0
AreOther events = AllByRecursion (λ event. is_of_takeover event ≡ false) events

-- ---- runs

others-push : (events : List Step) (event : Step) → AreOther events → is_of_takeover event ≡ false → AreOther (events ++ event ∷ [])
others-push [] event all one = (one, tt)
others-push (e ∷ events) event all one = (all.0, others-push events event all.1 one)

pub others-both : (events more : List Step) → AreOther events → AreOther more → AreOther (events ++ more)
others-both [] more all rest = rest
others-both (e ∷ events) more all rest = (all.0, others-both events more all.1 rest)

-- it is reached
pub following-reaches : (start now : Machine) → ReachesFollowing start now → Reaches start now
following-reaches start now r = record { events = r.events; replies = r.replies; run = r.run }

pub following-none : (m : Machine) → ReachesFollowing m m
following-none m = record { events = []; replies = []; run = Begins; follows = tt }

pub follows-none : (from : Option Machine) (m : Machine) → from ≡ Some m → FollowsFrom from m
follows-none from m e = rw e (following-none m)

pub follows-event : (from : Option Machine) (now : Machine) (event : Step) (reply : Reply) (new : Machine) → is_of_takeover event ≡ false → FollowsFrom from now → Makes now event reply new → FollowsFrom from new
follows-event (Some start) now event reply new other r makes = record {
  events = r.events ++ event ∷ [];
  replies = r.replies ++ reply ∷ [];
  run = Goes r.events r.replies now r.run event reply new makes;
  follows = others-push r.events event r.follows other;
}
follows-event None now event reply new other r makes = absurd r

pub follows-lend : (from : Option Machine) (now : Machine) (page : ℕ) (answer : Result Leased Fault) (new : Machine) → FollowsFrom from now → MakesLend now page answer new → FollowsFrom from new
follows-lend (Some start) now page answer new r makes = record {
  events = r.events;
  replies = r.replies;
  run = Lending r.events r.replies now r.run page answer new makes;
  follows = r.follows;
}
follows-lend None now page answer new r makes = absurd r

pub follows-give : (from : Option Machine) (now : Machine) (lease : Leased) (answer : Result (Unit {0}) NotGiven) (new : Machine) → FollowsFrom from now → MakesGive now lease answer new → FollowsFrom from new
follows-give (Some start) now lease answer new r makes = record {
  events = r.events;
  replies = r.replies;
  run = Giving r.events r.replies now r.run lease answer new makes;
  follows = r.follows;
}
follows-give None now lease answer new r makes = absurd r

pub follows-query : (from : Option Machine) (now new : Machine) → FollowsFrom from now → Asks now new → FollowsFrom from new
follows-query (Some start) now new r asks = record {
  events = r.events;
  replies = r.replies;
  run = Queries r.events r.replies now r.run new asks;
  follows = r.follows;
}
follows-query None now new r asks = absurd r

pub follows-start : (from : Option Machine) (start now : Machine) → from ≡ Some start → FollowsFrom from now → ReachesFollowing start now
follows-start from start now e r = subst (λ (p : Option Machine). FollowsFrom p now) e r

-- ---- tallies

-- the other numbers of a tally stay
raised-other : (place at by : ℕ) (xs : List ℕ) → at ≢ place → slice_index (raised place by xs) at ≡ slice_index xs at
raised-other place at by [] other = refl
raised-other zero zero by (x ∷ xs) other = absurd (other refl)
raised-other zero (suc at) by (x ∷ xs) other = refl
raised-other (suc place) zero by (x ∷ xs) other = refl
raised-other (suc place) (suc at) by (x ∷ xs) other = raised-other place at by xs (λ same. other (ap suc same))

-- an event that is not of a takeover
abbrev pub is_other : Event → Bool
is_other event.Feed = true
is_other event.Resync = true
is_other event.Lend = true
is_other event.Give = true
is_other event.Recall = true
is_other event.Flush = true
is_other event.SyncPages = true
is_other event.LogWrite = true
is_other event.LogSync = true
is_other event.MarkWrite = true
is_other event.ControlSync = true
is_other event.CkptBegin = true
is_other event.CkptBlock = true
is_other event.CkptPublish = true
is_other event.PublishView = true
is_other event.Ready = true
is_other event.Seal = false
is_other event.UndoOne = false
is_other event.Finish = false
is_other event.Resolve = false
is_other event.Adopt = true

-- its number stands elsewhere in a tally
other_place : (e : Event) → is_other e ≡ true → (at : ℕ) → 16 ≤ at → at < 20 → at ≢ place_of e
other_place event.Feed holds at low high = λ same. omega (arith, same, low, high)
other_place event.Resync holds at low high = λ same. omega (arith, same, low, high)
other_place event.Lend holds at low high = λ same. omega (arith, same, low, high)
other_place event.Give holds at low high = λ same. omega (arith, same, low, high)
other_place event.Recall holds at low high = λ same. omega (arith, same, low, high)
other_place event.Flush holds at low high = λ same. omega (arith, same, low, high)
other_place event.SyncPages holds at low high = λ same. omega (arith, same, low, high)
other_place event.LogWrite holds at low high = λ same. omega (arith, same, low, high)
other_place event.LogSync holds at low high = λ same. omega (arith, same, low, high)
other_place event.MarkWrite holds at low high = λ same. omega (arith, same, low, high)
other_place event.ControlSync holds at low high = λ same. omega (arith, same, low, high)
other_place event.CkptBegin holds at low high = λ same. omega (arith, same, low, high)
other_place event.CkptBlock holds at low high = λ same. omega (arith, same, low, high)
other_place event.CkptPublish holds at low high = λ same. omega (arith, same, low, high)
other_place event.PublishView holds at low high = λ same. omega (arith, same, low, high)
other_place event.Ready holds at low high = λ same. omega (arith, same, low, high)
other_place event.Seal holds at low high = absurd (true≢false (sym holds))
other_place event.UndoOne holds at low high = absurd (true≢false (sym holds))
other_place event.Finish holds at low high = absurd (true≢false (sym holds))
other_place event.Resolve holds at low high = absurd (true≢false (sym holds))
other_place event.Adopt holds at low high = λ same. omega (arith, same, low, high)

-- such an event raises no number of a takeover
still : (e : Event) (by : ℕ) (old new : List ℕ) → is_other e ≡ true → new ≡ raised (place_of e) by old → CountsNoTakeover old → CountsNoTakeover new
still e by old new holds told none = record {
  seal = ap (λ (xs : List ℕ). slice_index xs 16) told ∙ raised-other (place_of e) 16 by old (other_place e holds 16 (omega arith) (omega arith)) ∙ none.seal;
  undo_one = ap (λ (xs : List ℕ). slice_index xs 17) told ∙ raised-other (place_of e) 17 by old (other_place e holds 17 (omega arith) (omega arith)) ∙ none.undo_one;
  finish = ap (λ (xs : List ℕ). slice_index xs 18) told ∙ raised-other (place_of e) 18 by old (other_place e holds 18 (omega arith) (omega arith)) ∙ none.finish;
  resolve = ap (λ (xs : List ℕ). slice_index xs 19) told ∙ raised-other (place_of e) 19 by old (other_place e holds 19 (omega arith) (omega arith)) ∙ none.resolve;
}

pub counts_event : {A B : Type 0} → (e : Event) (answer : Result A B) (old new : List ℕ) → is_other e ≡ true → TellsOk e answer old new → CountsNoTakeover old → CountsNoTakeover new
counts_event e (Ok a) old new holds told none = still e 1 old new holds told none
counts_event e (Err b) old new holds told none = subst CountsNoTakeover (sym told) none

pub counts_feed : (answer : Result Fed FeedFault) (old new : List ℕ) → TellsTaken answer old new → CountsNoTakeover old → CountsNoTakeover new
counts_feed answer old new told none = still event.Feed (taken_of answer) old new refl told none

pub counts_none : (tally : List ℕ) → tally ≡ no_events → CountsNoTakeover tally
counts_none tally e = rw e (record { seal = refl; undo_one = refl; finish = refl; resolve = refl })

pub counts_same : (old new : List ℕ) → new ≡ old → CountsNoTakeover old → CountsNoTakeover new
counts_same old new e none = subst CountsNoTakeover (sym e) none
