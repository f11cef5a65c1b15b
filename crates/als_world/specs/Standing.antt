-- What a world shows: the small machine and the worker slots while it is up; what its devices hold while it is down.
use Rattle.std.specs.Prelude.{◌≡◌, ℕ, true, false, List, ◌++◌, ◌<◌, ◌≤◌, if◌then◌else◌, Option, Some}
use Rattle.als_record.specs.declared.record.Record.{Record}
use Rattle.als_record.specs.LogText.{end_of}
use Rattle.als_record.specs.Commits.{commits_of}
use Rattle.als_disk.specs.Slot.{Slot}
use Rattle.als_lease.specs.Lease.{Leased}
use Rattle.als_epochs.specs.Histories.{next_seal}
use Rattle.als_ckpt.specs.declared.control_state.ControlState.{ControlState}
use Rattle.als_ckpt.specs.Control.{phase_byte}
use Rattle.als_reopen.specs.Taken.{IsTakenFrom}
use Rattle.als_reopen.specs.declared.disks.Disks.{Disks}
use Rattle.als_commits.specs.Counting.{ended_count}
use Rattle.als_store.specs.Stopped.{AreStopped, devices_of}
use Rattle.als_store.specs.Takeover.{GoesOn, IsUnderTakeover, IsFinished, IsSealOf, is_primary}
use Rattle.als_engine.specs.declared.config.Config.{Config}
use Rattle.als_engine.specs.Machine.{Machine}
use Rattle.als_engine.specs.Readers.{ended_in}
use Rattle.als_reopen.specs.Node.{Node}
use Rattle.als_engine.specs.Restarts.{IsWarm, IsMadeWith, StillHolds}
use Rattle.als_world.specs.declared.place.Place.{Place}
use Rattle.als_world.specs.declared.place.Place.TheVariants as place
use Rattle.als_world.specs.declared.world.World.{World}
use Rattle.als_world.specs.Slots.{no_leases}

-- While a world is up it has leases in its worker slots; while it is down it has so many slots, all of them empty.
pub data Standing : Type 0 where
  Up : Machine → List (Option Leased) → Standing
  Down : Node → ℕ → Standing

-- An engine is shown by its machine, where it was made over sound devices and with the world's configuration; devices by what they hold. Slots are
-- shown as they are.
unfoldable pub Shown : {D : Type 0} → (D → ℕ → Slot) → (D → ℕ) → Config → List (Option Leased) → Place D → Standing → Type 0
Shown slot count config slots (place.Up engine) (Up m leases) = (m ≡ engine.machine) × IsMadeWith config m × IsWarm m × (leases ≡ slots)
Shown slot count config slots (place.Down disks) (Down n workers) =
    StillHolds config (count disks.log) (count disks.control) (count disks.pages) (slot disks.log) (slot disks.control) (slot disks.pages) n
    × (slots ≡ no_leases workers)
Shown slot count config slots (place.Up engine) (Down n workers) = ⊥
Shown slot count config slots (place.Down disks) (Up m leases) = ⊥

unfoldable pub Shows : {D : Type 0} → (D → ℕ → Slot) → (D → ℕ) → World D → Standing → Type 0
Shows slot count world standing = Shown slot count world.config world.slots world.place standing

-- What a world leaves of its devices: those of a stop of its machine; or, while it is down, they hold what they held.
abbrev pub IsLeftBy : {D : Type 0} → (D → ℕ → Slot) → (D → ℕ) → Config → Standing → Disks D → Type 0
IsLeftBy slot count config (Up m leases) disks = AreStopped m.held (devices_of slot count disks)
IsLeftBy slot count config (Down n workers) disks =
    StillHolds config (count disks.log) (count disks.control) (count disks.pages) (slot disks.log) (slot disks.control) (slot disks.pages) n

-- the held log, and the one that devices hold
abbrev pub log_of : Standing → List Record
log_of (Up m leases) = m.held.log
log_of (Down n workers) = n.log

-- the synced control state
abbrev pub control_of : Standing → ControlState
control_of (Up m leases) = m.held.control
control_of (Down n workers) = n.said.state

-- the log reaches the acknowledged LSN
abbrev pub IsSteady : Standing → Type 0
IsSteady s = (control_of s).mark.0 ≤ end_of (log_of s)

-- How many commits a reader may have been told of: those published, where there is a list; else those whose records end at or below what is
-- acknowledged.
abbrev pub counted : Standing → ℕ
counted (Up m leases) = if m.listed then m.published else ended_in m.held
counted (Down n workers) = ended_count n.said.state.mark.0 (commits_of n.log)

-- The records of two logs agree up to an offset: the logs have a front in common that reaches it.
pub record Agree (before after : List Record) (offset : ℕ) : Type 0 where
  pub front : List Record
  pub lost : List Record
  pub more : List Record
  pub old : before ≡ front ++ lost
  pub new : after ≡ front ++ more
  pub reaches : offset ≤ end_of front

-- The log of a standing past Following at the seal, which is acknowledged: the front of the log that ends there.
pub record IsSealedAt (s : Standing) (sealed : List Record) : Type 0 where
  pub past : 1 < phase_byte (control_of s).phase
  pub rest : List Record
  pub parts : log_of s ≡ sealed ++ rest
  pub ends : end_of sealed ≡ (control_of s).seal.0
  pub acknowledged : (control_of s).seal.0 ≤ (control_of s).mark.0

-- What is acknowledged stays so, over crashes too, and the text below it stands. What is acknowledged of a takeover stays so too: the phase
-- never falls, and past Following the seal stays. A commit that was counted stays counted. What was acknowledged before a seal ends at or below it:
-- the first seal of the later history that the earlier one lacks.
pub record Keeps (old new : Standing) : Type 0 where
  pub acknowledged : (control_of old).mark.0 ≤ (control_of new).mark.0
  pub text : Agree (log_of old) (log_of new) (control_of old).mark.0
  pub takeover : GoesOn (control_of old) (control_of new)
  pub counted : counted old ≤ counted new
  pub below : (seal : ℕ) → next_seal (control_of old).history (control_of new).history ≡ Some seal → (control_of old).mark.0 ≤ seal

-- What each control state says of the log is true: past Following the log is the sealed one and a front of its tail, in Primary its whole tail
-- and what was decided since of the transactions in doubt; and the seal is acknowledged. A finished takeover holds exactly what the transactions
-- of the sealed log left that are committed or in doubt, until one in doubt is decided. From then on, where nothing of a tail is left to append
-- and nothing is pending, it holds what a takeover keeps of the whole log. Of a finished takeover that is said unless the engine is recovering.
abbrev pub IsTrue : Standing → Type 0
IsTrue (Up m leases) = IsUnderTakeover m.held × (m.held.recovering ≡ false → is_primary m.held ≡ true → IsFinished m.held) × IsSealOf m.held.control
IsTrue (Down n workers) = IsTakenFrom n.log n.said.state × IsSealOf n.said.state
