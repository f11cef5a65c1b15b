-- The small machine: what an engine holds. A page is the log's, up to a page_LSN; the log is
-- written and synced up to an offset, and control states are written.
use Rattle.std.specs.Prelude.{◌≡◌, ℕ, ◌≤◌, ◌++◌, Bool, true, false, List, [], Option, Some, None}
use Rattle.als_record.specs.declared.record.Record.{Record}
use Rattle.als_record.specs.LogText.{end_of}
use Rattle.als_record.specs.Commits.{commits_of}
use Rattle.als_commits.specs.Counting.{ended_count}
use Rattle.als_pool.specs.Pooled.{Pooled}
use Rattle.als_store.specs.Stored.{Stored, formatted, acknowledged, newest}
use Rattle.als_engine.specs.declared.config.Config.{Config}
use Rattle.als_engine.specs.declared.fault.Fault.{Fault}
use Rattle.als_engine.specs.declared.status.State.{State}
use Rattle.als_engine.specs.declared.status.State.TheVariants as state
use Rattle.als_epochs.specs.Histories.{next_seal}
use Rattle.als_ckpt.specs.declared.phase.Phase.{Phase}
use Rattle.als_ckpt.specs.declared.phase.Phase.TheVariants.{Following, Sealed, Primary}
use Rattle.als_store.specs.Takeover.{GoesOn}
use Rattle.als_store.specs.Warm.{WasWarm}

pub record Machine : Type 0 where
  -- the held log and its pages, and how much of it is on the devices; broken once a write or a sync
  -- has failed
  pub held : Stored
  -- from how many pending changes on feed is refused
  pub limit : ℕ
  -- the bytes of a record that is not whole yet
  pub partial : List ℕ
  -- the kept fault of an engine that refuses
  pub refused : Option Fault
  -- readers have a list of published commits, and how many it has: 0 where there is none
  pub listed : Bool
  pub published : ℕ

-- a standby over devices that were just formatted: the log device has so many blocks, and the
-- devices had failed so often and were called so often to write or to sync
abbrev pub formatted_machine : Config → Pooled → ℕ → ℕ → ℕ → Machine
formatted_machine config pool blocks failures attempts = record {
  held = formatted config.pages pool blocks failures attempts;
  limit = config.pending;
  partial = [];
  refused = None;
  listed = true;
  published = 0;
}

-- no write and no sync has failed
abbrev pub IsRunning : Machine → Type 0
IsRunning m = m.held.broken ≡ false

-- one has
abbrev pub IsStopped : Machine → Type 0
IsStopped m = m.held.broken ≡ true

abbrev pub state_in : Phase → Option Fault → ℕ → State
state_in Following None end = state.Following
state_in Following (Some fault) end = state.Refusing (record { 0 = end }) fault
state_in Sealed refused end = state.Sealed
state_in Primary refused end = state.Primary

abbrev pub state_from : Bool → Bool → Phase → Option Fault → ℕ → State
state_from true recovering phase refused end = state.Stopped
state_from false true phase refused end = state.Recovering
state_from false false phase refused end = state_in phase refused end

abbrev pub state_of : Machine → State
state_of m =
    state_from m.held.broken m.held.recovering (newest m.held).phase m.refused (end_of m.held.log)

-- how many commits of the held log end at or below what is acknowledged
abbrev pub acknowledged_in : Machine → ℕ
acknowledged_in m = ended_count (acknowledged m.held) (commits_of m.held.log)

-- What is acknowledged stays so, the log only grows, and a stopped engine stays stopped. What is
-- acknowledged of a takeover stays so too: the synced phase never falls, and past Following the
-- seal stays. The page count and the limit stay, an engine that was made over sound devices still
-- was, and one that is not recovering does not begin to. What readers may see stays: there is a
-- list of published commits if there was, and it only grows. A list that is opened has all commits
-- that were acknowledged. What was acknowledged ends at or below the next seal: the first one of the
-- new history that the old one lacks.
pub record Keeps (old new : Machine) : Type 0 where
  pub acknowledged : acknowledged old.held ≤ acknowledged new.held
  pub more : List Record
  pub log : new.held.log ≡ old.held.log ++ more
  pub stopped : IsStopped old → IsStopped new
  pub takeover : GoesOn old.held.control new.held.control
  pub pages : new.held.pages ≡ old.held.pages
  pub limit : new.limit ≡ old.limit
  pub warm : WasWarm old.held → WasWarm new.held
  pub ready : old.held.recovering ≡ false → new.held.recovering ≡ false
  pub listed : old.listed ≡ true → new.listed ≡ true
  pub published : old.published ≤ new.published
  pub shown : old.listed ≡ false → new.listed ≡ true → acknowledged_in old ≤ new.published
  pub below : (seal : ℕ) → next_seal old.held.control.history new.held.control.history ≡ Some seal
      → old.held.control.mark.0 ≤ seal
