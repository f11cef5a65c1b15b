-- What becomes of a request that may commit.
use Rattle.std.specs.Prelude.{◌≡◌, ℕ, ◌-◌, ◌⊎◌, List, [], ◌∷◌, ◌++◌, length, map, take, replicate}
use Rattle.als_writer.specs.declared.transaction.Transaction.{Transaction}
use Rattle.als_writer.specs.declared.work.Work.{Work}
use Rattle.als_writer.specs.declared.work.Work.TheVariants as work
use Rattle.als_asking.specs.declared.manner.Manner.{Manner}
use Rattle.als_asking.specs.declared.manner.Manner.TheVariants as manner
use Rattle.als_asking.specs.Bodies.{Asks, all_of}
use Rattle.als_asking.specs.declared.wanted.Wanted.{Wanted}
use Rattle.als_asking.specs.declared.wanted.Wanted.TheVariants as wanted
use Rattle.als_asking.specs.declared.outcome.Outcome.{Outcome}
use Rattle.als_asking.specs.declared.outcome.Outcome.TheVariants.{Lost}
use Rattle.als_asking.specs.declared.told.Told.{Told}
use Rattle.als_asking.specs.declared.told.Told.TheVariants.{One, Each, Unread}

-- the work that a transaction is
abbrev pub work_of : Manner → Transaction → Work
work_of manner.Commit t = work.Commit t
work_of manner.Prepare t = work.Prepare t

-- the first outcome; without one it is lost
abbrev pub first_of : List Outcome → Outcome
first_of [] = Lost
first_of (o ∷ os) = o

-- as many outcomes as there are transactions; those that are not there are lost
abbrev pub padded : ℕ → List Outcome → List Outcome
padded n os = take n os ++ replicate (n - length os) Lost

-- what is answered to transactions with these outcomes: the outcomes in order, or that they are lost where memory ran out for their list
unfoldable pub Tells : Wanted → List Outcome → Told → Type 0
Tells (wanted.One t) os (One o) = o ≡ first_of os
Tells (wanted.Each ts) os (One o) = o ≡ Lost
Tells (wanted.Each ts) os (Each told) = told.items ≡ padded (length ts.items) os
Tells w os told = ⊥

-- these transactions are committed or prepared, and their outcomes are answered
pub record AreCommitted {C : Type 0} (commits : C → List Work → List Outcome → C → Type 0) (how : Manner) (old : C)
    (asked : Wanted) (told : Told) (new : C) : Type 0 where
  pub outcomes : List Outcome
  pub committed : commits old (map (work_of how) (all_of asked)) outcomes new
  pub tells : Tells asked outcomes told

-- it is answered that nothing was asked for
abbrev pub IsUnread : Told → Type 0
IsUnread (Unread why) = Unit {0}
IsUnread told = ⊥

-- nothing was committed
abbrev pub IsLeft : {C : Type 0} → C → Told → C → Type 0
IsLeft old told new = (new ≡ old) × IsUnread told

-- what is asked for is committed or prepared, and answered; or nothing is
abbrev pub IsToldOf : {C : Type 0} → (C → List Work → List Outcome → C → Type 0) → Manner → C → Wanted → Told → C → Type 0
IsToldOf commits how old asked told new = AreCommitted commits how old asked told new ⊎ IsLeft old told new

-- what the body asks for is committed or prepared, and answered; or nothing is
abbrev pub IsTaken : {C : Type 0} → (C → List Work → List Outcome → C → Type 0) → Manner → List ℕ → C → Told → C → Type 0
IsTaken commits how body old told new = ((asked : Wanted) × Asks body asked × AreCommitted commits how old asked told new) ⊎ IsLeft old told new
