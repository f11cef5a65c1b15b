-- The devices of a store that was stopped, and what a crash leaves of them, by a list of picks.
use Rattle.std.specs.Prelude.{◌≡◌, ℕ, ◌<◌, ◌≤◌, ◌+◌, ◌-◌, ◌*◌, ◌/◌, false, List, ◌∷◌, length, min}
use Rattle.std.specs.Prelude.{drop, slice_index, slice_index_or}
use Rattle.als_record.specs.LogText.{log_text}
use Rattle.als_disk.specs.Slot.{Slot, IsSettled}
use Rattle.als_disk.specs.Crash.{LeavesPicked, choices_below}
use Rattle.als_log.specs.Texts.{AllHaveText}
use Rattle.als_ckpt.specs.declared.control_state.ControlState.{ControlState}
use Rattle.als_ckpt.specs.Control.{AreBlocks, HoldsState}
use Rattle.als_frames.specs.Frames.{slot_of}
use Rattle.als_reopen.specs.declared.disks.Disks.{Disks}
use Rattle.als_store.specs.Devices.{AreKept, AreImages}
use Rattle.als_store.specs.Leaving.{Leaves}
use Rattle.als_store.specs.Stored.{Stored}
use Rattle.als_store.specs.Warm.{WasWarm}

-- what stands in the blocks of a device, and how many there are
pub record Device : Type 0 where
  pub slot : ℕ → Slot
  pub blocks : ℕ

-- the three devices of a standby
pub record Devices : Type 0 where
  pub log : Device
  pub control : Device
  pub pages : Device

-- what stands in the blocks of three devices
abbrev pub devices_of : {D : Type 0} → (D → ℕ → Slot) → (D → ℕ) → Disks D → Devices
devices_of slot count disks = record {
  log = record { slot = slot disks.log; blocks = count disks.log };
  control = record { slot = slot disks.control; blocks = count disks.control };
  pages = record { slot = slot disks.pages; blocks = count disks.pages };
}

-- how many blocks of a device have more than one candidate
abbrev pub choices_of : Device → ℕ
choices_of d = choices_below d.slot d.blocks

-- A crash leaves in each block the candidate that the picks name, and has used so many of them. The
-- log's device takes the picks first, one for each block that has more than one candidate; then the
-- control device takes those that are left, then the pages' device.
pub record LeavesByPicks (old : Devices) (picks : List ℕ) (left : Devices)
    (taken : ℕ) : Type 0 where
  pub log : LeavesPicked old.log.slot picks left.log.slot
  pub control : LeavesPicked old.control.slot (drop (choices_of old.log) picks) left.control.slot
  pub pages : LeavesPicked old.pages.slot
      (drop (choices_of old.log + choices_of old.control) picks) left.pages.slot
  pub used : taken ≡ min (length picks)
      (choices_of old.log + choices_of old.control + choices_of old.pages)

-- The devices of a store that was stopped. Whatever a crash leaves of them has all acknowledged
-- bytes. If they were sound when the store was made, it has of each page an image from below these
-- bytes for which the page's row is sound, one of the control states that were synced or written
-- since, and the front of the log that ends at its mark. It may leave what is written of the log,
-- and, where no device has failed, each of these control states, oldest first. What stands in the
-- blocks of the pages is what the store shows of them. A block of the log's device that ends at or
-- below the synced end, or begins above the written end, has one content.
pub record AreStopped (s : Stored) (d : Devices) : Type 0 where
  pub kept : AreKept s d.log.slot d.control.slot
  pub images : WasWarm s → AreImages s d.pages.slot
  pub leaves : WasWarm s → Leaves s d.log.slot d.control.slot d.pages.slot
  pub written : AllHaveText (λ b. (d.log.slot b).readable) (log_text s.pages s.log) s.written
  pub before : (k : ℕ) → 512 * k + 512 ≤ s.synced → IsSettled (d.log.slot k)
  pub beyond : (k : ℕ) → s.written < 512 * k → IsSettled (d.log.slot k)
  pub states : s.broken ≡ false
      → AreBlocks s.pages (s.control ∷ s.since) (d.control.slot 0).candidates
  pub pages : (page : ℕ) → page < s.pages → d.pages.slot page ≡ slot_of s.pool.frames page
  pub log_blocks : d.log.blocks ≡ s.blocks
  pub control_blocks : 321 ≤ d.control.blocks
  pub page_blocks : d.pages.blocks ≡ s.pool.frames.blocks
  pub page_room : s.pages ≤ d.pages.blocks

-- A crash of a store leaves these devices: there are devices that a stop of it leaves, and the
-- picks choose among what each of their blocks may be left with.
pub record CrashesTo (s : Stored) (picks : List ℕ) (left : Devices) (used : ℕ) : Type 0 where
  pub stopped : Devices
  pub stops : AreStopped s stopped
  pub picked : LeavesByPicks stopped picks left used

-- ---- the control state that a crash leaves

-- the control state of this number among those that were synced and written since, counted from 0,
-- or the last one where the number is too large
abbrev pub state_at : Stored → ℕ → ControlState
state_at s n = slice_index_or (s.control ∷ s.since) (min n (length s.since)) s.control

-- One of the first picks names the control state that a crash leaves: the one behind those that the
-- log's device takes, at most one for each block from that of the synced end to that of the written
-- end.
pub record NamesState (s : Stored) (picks : List ℕ) (left : Devices) : Type 0 where
  pub place : ℕ
  pub few : place ≤ s.written / 512 + 1 - s.synced / 512
  pub names : HoldsState s.pages (left.control.slot 0) (state_at s (slice_index picks place))
