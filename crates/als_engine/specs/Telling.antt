-- What a standby tells of itself.
use Rattle.std.specs.Prelude.{◌≡◌, ℕ, ◌≤◌, true, false, not, ◌∷◌, Contains, length, if◌then◌else◌}
use Rattle.als_ckpt.specs.declared.control_state.ControlState.{ControlState}
use Rattle.als_ckpt.specs.Control.{Continues}
use Rattle.als_record.specs.LogText.{end_of}
use Rattle.als_record.specs.Validity.{is_valid, IsValidLog}
use Rattle.als_pool.specs.Pooled.{leases_of}
use Rattle.als_store.specs.Stored.{acknowledged, newest, pending_of}
use Rattle.als_store.specs.Takeover.{IsUnderTakeover, IsFinished, is_primary}
use Rattle.als_store.specs.Warm.{WasWarm}
use Rattle.als_engine.specs.declared.status.Status.{Status}
use Rattle.als_engine.specs.Machine.{Machine, state_of}
use Rattle.als_engine.specs.Readers.{ended_in}

-- its state, where its log ends, the bytes of the record that is not whole yet, what is
-- acknowledged, what waits for redo, and how many leases are out
pub record Tells (m : Machine) (status : Status) : Type 0 where
  pub state : status.state ≡ state_of m
  pub end : status.end.0 ≡ end_of m.held.log
  pub partial : status.partial ≡ length m.partial
  pub acknowledged : status.acknowledged.0 ≡ acknowledged m.held
  pub pending : status.pending ≡ pending_of m.held
  pub leases : status.leases ≡ leases_of m.held.pool

-- What always holds between two events. The log is valid and has the records of its database, each
-- of which can be spelled; and it reaches what is acknowledged. A page
-- is lent only while changes wait for it. Readers have a list of published commits unless the
-- engine is recovering, and each of them is acknowledged. Where the devices were sound when the
-- engine was made, what each control state that a crash may leave says of the log is true, and a
-- finished takeover holds exactly what the transactions of the sealed log left that are committed or
-- in doubt, and then what their decisions leave, unless the engine is recovering.
pub record Stands (m : Machine) : Type 0 where
  pub valid : is_valid m.held.log ≡ true
  pub stable : acknowledged m.held ≤ end_of m.held.log
  pub lent : pending_of m.held ≡ 0 → leases_of m.held.pool ≡ 0
  pub listed : m.listed ≡ not m.held.recovering
  pub counted : m.published ≤ ended_in m.held
  pub unlisted : m.listed ≡ false → m.published ≡ 0
  pub taken : WasWarm m.held → IsUnderTakeover m.held
  pub finished : WasWarm m.held → m.held.recovering ≡ false → is_primary m.held ≡ true
      → IsFinished m.held
  pub log : IsValidLog m.held.pages m.held.log

-- How many commits a reader may have been told of: those published, where there is a list; else
-- those whose records end at or below what is acknowledged.
abbrev pub told_in : Machine → ℕ
told_in m = if m.listed then m.published else ended_in m.held

-- The history goes on from that of each control state which a crash may leave, and the log that such
-- a state acknowledges ends at or below the first seal that its own history lacks.
abbrev pub IsGrown : Machine → Type 0
IsGrown m = (c : ControlState) → Contains (m.held.control ∷ m.held.since) c
    → Continues c (newest m.held)
