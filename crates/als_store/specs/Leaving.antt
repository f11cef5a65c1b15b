-- What a crash may leave of a store.
use Rattle.std.specs.Prelude.{◌≡◌, ℕ, ◌≤◌, List, ◌∷◌, ◌++◌, Contains}
use Rattle.als_record.specs.declared.record.Record.{Record}
use Rattle.als_disk.specs.Slot.{Slot, KeepsCandidate}
use Rattle.als_ckpt.specs.Regions.{held_at}
use Rattle.als_reopen.specs.Node.{Node, IsNode}
use Rattle.als_store.specs.Stored.{Stored, acknowledged}
use Rattle.als_store.specs.Takeover.{GoesOn}

-- One of the control states that were synced or written since, with the checkpoint that it
-- publishes; and a front of the log, which ends at its mark; on the same log device.
pub record MayLeave (s : Stored) (n : Node) : Type 0 where
  pub blocks : n.blocks ≡ s.blocks
  pub state : Contains (s.control ∷ s.since) n.said.state
  pub checkpoint : n.said.checkpoint ≡ held_at s.held n.said.state.published
  pub rest : List Record
  pub front : s.log ≡ n.log ++ rest
  -- nothing acknowledged is lost: the mark and the phase do not fall, and past Following the seal
  -- stays
  pub above : acknowledged s ≤ n.said.state.mark.0
  pub goes_on : GoesOn s.control n.said.state

-- these blocks hold what a crash may leave
pub record HoldsLeft (s : Stored) (log control pages : ℕ → Slot) : Type 0 where
  pub node : Node
  pub holds : IsNode s.pages s.blocks log control pages node
  pub may : MayLeave s node

-- a crash leaves one candidate of each block
abbrev pub IsCrashOf : (ℕ → Slot) → (ℕ → Slot) → Type 0
IsCrashOf old left = (k : ℕ) → KeepsCandidate (old k) (left k)

-- whatever a crash leaves of each block of these devices, they hold it
abbrev pub Leaves : Stored → (ℕ → Slot) → (ℕ → Slot) → (ℕ → Slot) → Type 0
Leaves s log control pages =
    (left_log left_control left_pages : ℕ → Slot) → IsCrashOf log left_log
    → IsCrashOf control left_control → IsCrashOf pages left_pages
    → HoldsLeft s left_log left_control left_pages
