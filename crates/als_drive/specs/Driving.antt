-- What is done with a standby by several of its events.
use Rattle.std.specs.Prelude.{◌≡◌, ◌⊎◌, None, Err, ℕ, false}
use Rattle.als_lease.specs.Lease.{Leased}
use Rattle.als_pool.specs.Outcomes.{IsOutstanding}
use Rattle.als_pool.specs.Queues.{WaitsFirst}
use Rattle.als_engine.specs.declared.fault.Fault.{Fault}
use Rattle.als_engine.specs.declared.fault.Fault.TheVariants.{Backlog}
use Rattle.als_engine.specs.Machine.{Machine}
use Rattle.als_engine.specs.Leases.{Lends}
use Rattle.als_engine.specs.Readiness.{Readies}

-- no page waits for changes
abbrev pub IsDrained : Machine → Type 0
IsDrained m = WaitsFirst m.held.pool.waits 0 None

-- a lease is out, and no write or sync has failed: so it is taken back
pub record IsOut (m : Machine) (lease : Leased) : Type 0 where
  pub goes_on : m.held.broken ≡ false
  pub outstanding : IsOutstanding m.held.pool lease

-- pages were redone: the log, how far it is stable, the control states and all else are as they were
abbrev pub OnlyRedoes : Machine → Machine → Type 0
OnlyRedoes old new = new ≡ record old { held = record old.held { pool = new.held.pool; failures = new.held.failures } }

-- pages were redone, and the recovery has ended: then all commits of the held log are published. All else is as it was
abbrev pub OnlyRecovers : Machine → Machine → Type 0
OnlyRecovers old new = new ≡ record old {
  held = record old.held { pool = new.held.pool; failures = new.held.failures; recovering = new.held.recovering };
  listed = new.listed;
  published = new.published;
}

-- a page was not lent for redo; a database has no page for each of 2^64 rounds
abbrev pub RedoRefused : Fault → Machine → Type 0
RedoRefused cause new = (cause ≡ Backlog) ⊎ ((old : Machine) × (page : ℕ) × Lends old page (Err cause) new)

-- a redo was refused, or the end of the recovery
abbrev pub RecoveryRefused : Fault → Machine → Type 0
RecoveryRefused cause new = RedoRefused cause new ⊎ ((old : Machine) × Readies old (Err cause) new)

-- nothing waits for redo, and it is not recovering any more
pub record IsRecovered (m : Machine) : Type 0 where
  pub drained : IsDrained m
  pub ready : m.held.recovering ≡ false
