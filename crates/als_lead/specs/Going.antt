-- How a machine goes on that one leader alone drives.
use Rattle.std.specs.Prelude.{◌≡◌, ◌≤◌, ◌⊎◌, true, false, List, ◌++◌}
use Rattle.als_record.specs.declared.record.Record.{Record}
use Rattle.als_record.specs.Commits.{commits_of}
use Rattle.als_store.specs.Stored.{acknowledged}
use Rattle.als_engine.specs.Machine.{Machine, IsStopped, acknowledged_in}

-- The log only grows. What is acknowledged and what is published stay so, a stopped engine stays stopped, and none begins to recover.
pub record Grows (old new : Machine) : Type 0 where
  pub acknowledged : acknowledged old.held ≤ acknowledged new.held
  pub more : List Record
  pub log : new.held.log ≡ old.held.log ++ more
  pub pages : new.held.pages ≡ old.held.pages
  pub stopped : IsStopped old → IsStopped new
  pub ready : old.held.recovering ≡ false → new.held.recovering ≡ false
  pub listed : old.listed ≡ true → new.listed ≡ true
  pub published : old.published ≤ new.published

-- the same, the log is as it was, and readers see what they saw
pub record Stays (old new : Machine) : Type 0 where
  pub grows : Grows old new
  pub same : new.held.log ≡ old.held.log
  pub published : new.published ≡ old.published

-- the log is as it was, and readers see what they saw, or each commit that was acknowledged
pub record Publishes (old new : Machine) : Type 0 where
  pub grows : Grows old new
  pub same : new.held.log ≡ old.held.log
  pub published : (new.published ≡ old.published) ⊎ (new.published ≡ acknowledged_in old)

-- the log goes on without a commit, and readers see what they saw
pub record Tidies (old new : Machine) : Type 0 where
  pub grows : Grows old new
  pub commits : commits_of new.held.log ≡ commits_of old.held.log
  pub published : new.published ≡ old.published
