-- What lend, give and recall make of the small machine, and what they answer.
use Rattle.std.specs.Prelude.{◌≡◌, ℕ, MatchOption, Result, Ok, Err}
use Rattle.als_lease.specs.Lease.{Leased}
use Rattle.als_pool.specs.Outcomes.{IsOutstanding}
use Rattle.als_store.specs.declared.fault.Fault.{Fault as StoreFault}
use Rattle.als_store.specs.declared.fault.Fault.TheVariants.{BadPage as NotThePage}
use Rattle.als_store.specs.Events.{LendsPage, IsNotLent, GivesBack, RecallsPage}
use Rattle.als_store.specs.Views.{ShowsLend, ShowsGive}
use Rattle.als_store.specs.Warm.{WasWarm}
use Rattle.als_engine.specs.Faults.{from_store}
use Rattle.als_engine.specs.declared.fault.Fault.{Fault}
use Rattle.als_engine.specs.declared.fault.Fault.TheVariants.{Stranger}
use Rattle.als_engine.specs.declared.not_given.NotGiven.{NotGiven}
use Rattle.als_engine.specs.declared.step.Step.TheVariants as step
use Rattle.als_engine.specs.Machine.{Machine}
use Rattle.als_engine.specs.Refusals.{Does, DoesBy, lend_causes, give_causes, first_of}
use Rattle.als_engine.specs.Events.{Changes}

-- ---- the events, where no cause stands against them

-- A page is lent. Of a warm engine the lease's base and its batch are the log's.
pub record LendsIt (old : Machine) (page : ℕ) (lease : Leased) (new : Machine) : Type 0 where
  pub changes : Changes old (λ held after. LendsPage held page lease after) new
  pub shows : WasWarm old.held
      → ShowsLend old.held.log old.held.pool page lease new.held.pool

-- A page that may be lent was not: its read failed, or gave a page that has all that waited, or
-- memory was wanted. That its block is not the page's never comes of a warm engine.
pub record LendsNothing (old : Machine) (page : ℕ) (fault : Fault) (new : Machine) : Type 0 where
  pub cause : StoreFault
  pub answer : fault ≡ from_store cause
  pub sound : WasWarm old.held → cause ≡ NotThePage page → ⊥
  pub changes : Changes old (λ held after. IsNotLent held page cause after) new

abbrev pub LendsPageOf : Machine → ℕ → Result Leased Fault → Machine → Type 0
LendsPageOf old page (Ok lease) new = LendsIt old page lease new
LendsPageOf old page (Err fault) new = LendsNothing old page fault new

-- The lease that is out for its page is taken in: the page is as the lease has it, and what it has
-- redone waits no more. Of a warm engine that page is the log's.
pub record TakesIn (old : Machine) (lease : Leased) (new : Machine) : Type 0 where
  pub changes : Changes old (λ held after. GivesBack held lease after) new
  pub shows : WasWarm old.held → ShowsGive old.held.log old.held.pool lease new.held.pool

-- a lease handed back with a fault
abbrev pub handed_back : Leased → Fault → NotGiven
handed_back lease fault = record { lease = lease; fault = fault }

-- a lease that is not the one that is out for its page comes back as it is
pub record IsStranger (old : Machine) (lease : Leased) (refused : NotGiven)
    (new : Machine) : Type 0 where
  pub stranger : IsOutstanding old.held.pool lease → ⊥
  pub answer : refused ≡ handed_back lease Stranger
  pub after : new ≡ old

abbrev pub TakesLease : Machine → Leased → Result (Unit {0}) NotGiven → Machine → Type 0
TakesLease old lease (Ok done) new = TakesIn old lease new
TakesLease old lease (Err refused) new = IsStranger old lease refused new

-- the lease that is out for a page is no longer its lease, and its changes wait on
abbrev pub EndsLease : Machine → ℕ → Result (Unit {0}) Fault → Machine → Type 0
EndsLease old page (Ok done) new = Changes old (λ held after. RecallsPage held page after) new
EndsLease old page (Err fault) new = ⊥

-- ---- refused or not

abbrev pub Lends : Machine → ℕ → Result Leased Fault → Machine → Type 0
Lends old page result new =
    DoesBy (lend_causes old page) (λ fault. fault) (LendsPageOf old page) old result new

abbrev pub Gives : Machine → Leased → Result (Unit {0}) NotGiven → Machine → Type 0
Gives old lease result new =
    DoesBy (give_causes old) (handed_back lease) (TakesLease old lease) old result new

abbrev pub Recalls : Machine → ℕ → Result (Unit {0}) Fault → Machine → Type 0
Recalls old page result new = Does old (step.Recall page) (EndsLease old page) result new
