-- A machine that is reached from another one, by events, by leases and by queries.
use Rattle.std.specs.Prelude.{◌≡◌, ◌⊎◌, ℕ, Bool, true, false, List, [], ◌∷◌, ◌++◌, Option, Some, None, Result}
use Rattle.std.specs.List.{AllByRecursion}
use Rattle.als_record.specs.declared.lsn.Lsn.{Lsn}
use Rattle.als_record.specs.declared.record.Record.{Record}
use Rattle.als_page.specs.declared.page.Page.{Page}
use Rattle.als_lease.specs.Lease.{Leased}
use Rattle.als_engine.specs.declared.fault.Fault.{Fault}
use Rattle.als_engine.specs.declared.not_given.NotGiven.{NotGiven}
use Rattle.als_engine.specs.declared.step.Step.{Step}
use Rattle.als_engine.specs.declared.step.Step.TheVariants as step
use Rattle.als_engine.specs.declared.step.Reply.{Reply}
use Rattle.als_engine.specs.Events.{ShowsPage, Reads}
use Rattle.als_engine.specs.Leases.{Lends, Gives}
use Rattle.als_view.specs.declared.front.Front.{Front}
use Rattle.als_engine.specs.Machine.{Machine, Keeps}
use Rattle.als_engine.specs.Publishing.{TellsReaders}
use Rattle.als_engine.specs.Runs.{Steps}
use Rattle.als_engine.specs.Telling.{Stands}

-- an event has this reply; it keeps what each event keeps, and what always holds still does
pub record Makes (old : Machine) (event : Step) (reply : Reply) (new : Machine) : Type 0 where
  pub steps : Steps old event reply new
  pub keeps : Keeps old new
  pub stands : Stands new

-- a page is lent, or that is refused
pub record MakesLend (old : Machine) (page : ℕ) (answer : Result Leased Fault)
    (new : Machine) : Type 0 where
  pub lends : Lends old page answer new
  pub keeps : Keeps old new
  pub stands : Stands new

-- a lease is taken in, or comes back
pub record MakesGive (old : Machine) (lease : Leased) (answer : Result (Unit {0}) NotGiven)
    (new : Machine) : Type 0 where
  pub gives : Gives old lease answer new
  pub keeps : Keeps old new
  pub stands : Stands new

-- a page or a record was asked for, which may have to be read from a device
abbrev pub IsAsked : Machine → Machine → Type 0
IsAsked old new =
    ((page : ℕ) × (answer : Result Page Fault) × ShowsPage old page answer new)
    ⊎ ((lsn : Lsn) × (answer : Result (Option Record) Fault) × Reads old lsn answer new)

-- such a query keeps what each event keeps
pub record Asks (old new : Machine) : Type 0 where
  pub asked : IsAsked old new
  pub keeps : Keeps old new
  pub stands : Stands new

-- The events have these replies, one after another, and lead from the first machine to the last.
-- Pages may be lent and leases taken in between, and queries may come.
pub data Run (start : Machine) : List Step → List Reply → Machine → Type 0 where
  Begins : Run start [] [] start
  Goes : (events : List Step) → (replies : List Reply) → (mid : Machine)
      → Run start events replies mid
      → (event : Step) → (reply : Reply) → (new : Machine) → Makes mid event reply new
      → Run start (events ++ event ∷ []) (replies ++ reply ∷ []) new
  Lending : (events : List Step) → (replies : List Reply) → (mid : Machine)
      → Run start events replies mid
      → (page : ℕ) → (answer : Result Leased Fault) → (new : Machine)
      → MakesLend mid page answer new → Run start events replies new
  Giving : (events : List Step) → (replies : List Reply) → (mid : Machine)
      → Run start events replies mid
      → (lease : Leased) → (answer : Result (Unit {0}) NotGiven) → (new : Machine)
      → MakesGive mid lease answer new → Run start events replies new
  Queries : (events : List Step) → (replies : List Reply) → (mid : Machine)
      → Run start events replies mid
      → (new : Machine) → Asks mid new → Run start events replies new

-- there are such events and replies
pub record Reaches (start now : Machine) : Type 0 where
  pub events : List Step
  pub replies : List Reply
  pub run : Run start events replies now

-- it is reached from the one that was picked
abbrev pub ReachesFrom : Option Machine → Machine → Type 0
ReachesFrom (Some start) now = Reaches start now
ReachesFrom None now = ⊥

-- an event of a takeover
abbrev pub is_of_takeover : Step → Bool
is_of_takeover (step.Feed piece) = false
is_of_takeover step.Resync = false
is_of_takeover (step.Recall page) = false
is_of_takeover (step.Flush page) = false
is_of_takeover step.SyncPages = false
is_of_takeover step.LogWrite = false
is_of_takeover step.LogSync = false
is_of_takeover step.MarkWrite = false
is_of_takeover step.ControlSync = false
is_of_takeover step.CkptBegin = false
is_of_takeover step.CkptBlock = false
is_of_takeover step.CkptPublish = false
is_of_takeover step.PublishView = false
is_of_takeover step.Ready = false
is_of_takeover (step.Adopt history) = false
is_of_takeover step.Seal = true
is_of_takeover step.UndoOne = true
is_of_takeover step.Finish = true
is_of_takeover (step.Resolve trans verdict) = true

-- there are such events and replies, and no event is of a takeover
pub record ReachesFollowing (start now : Machine) : Type 0 where
  pub events : List Step
  pub replies : List Reply
  pub run : Run start events replies now
  pub follows : AllByRecursion (λ event. is_of_takeover event ≡ false) events

-- the same from the one that was picked
abbrev pub FollowsFrom : Option Machine → Machine → Type 0
FollowsFrom (Some start) now = ReachesFollowing start now
FollowsFrom None now = ⊥

-- it is reached from the one that was picked, and without events of a takeover where these are refused
pub record IsDriven (takes_over : Bool) (from : Option Machine) (now : Machine) : Type 0 where
  pub reached : ReachesFrom from now
  pub follows : takes_over ≡ false → FollowsFrom from now

-- What is told is what a machine has published that is reached from the one that was picked.
abbrev pub IsToldFrom : Option Machine → Front → Type 0
IsToldFrom from told = (m : Machine) × ReachesFrom from m × TellsReaders m told
