-- What a running control block keeps true of its disk.
use Rattle.std.specs.Prelude.{◌≡◌, ◌⊎◌, ℕ, ◌≤◌, ◌<◌, ◌+◌, Bool, IsTrue, List, ◌∷◌, Contains, Option, None, Some, length}
use Rattle.als_disk.specs.Slot.{Slot}
use Rattle.als_ckpt.specs.declared.control_state.ControlState.{ControlState}
use Rattle.als_record.specs.declared.lsn.Lsn.{Lsn}
use Rattle.als_ckpt_codec.specs.declared.checkpoint.Checkpoint.{Checkpoint}
use Rattle.als_ckpt_codec.specs.Checkpoint.{checkpoint_bytes}
use Rattle.als_ckpt.specs.declared.region.Region.{Region}
use Rattle.als_ckpt.specs.Regions.{Held, held_in, held_at, first_block, part_of, blocks_for, Begun, HoldsContent, IsPublished}
use Rattle.als_ckpt.specs.Control.{Spells, AreBlocks, last_state, IsControlState, IsBlockOf, MarksRise, HistoriesGrow, IsApartIf}

-- Each candidate of the block spells a state that was written. Where no write failed they spell all of these states, oldest first,
-- and a read gives the newest.
pub record IsKept (slot : Slot) (pages log_bytes blocks : ℕ) (synced newest : ControlState) (since : List ControlState) (sure : Bool) : Type 0 where
  pub room : 321 ≤ blocks
  pub last : newest ≡ last_state synced since
  pub fits : (s : ControlState) → Contains (synced ∷ since) s → IsControlState log_bytes s
  pub rising : MarksRise synced since
  pub growing : HistoriesGrow synced since
  pub candidates : (content : List ℕ) → Contains slot.candidates content → IsBlockOf pages (synced ∷ since) content
  pub all : IsTrue sure → AreBlocks pages (synced ∷ since) slot.candidates
  pub readable : IsTrue sure → (content : List ℕ) → Contains slot.readable content → Spells pages newest content

-- The bytes of a checkpoint that is being written, and how far it is written.
pub record IsSpelled (c : Checkpoint) (position : Lsn) (bytes : List ℕ) (written synced : ℕ) : Type 0 where
  pub spelled : bytes ≡ checkpoint_bytes c
  pub at : position ≡ c.numbers.position
  pub order : synced ≤ written
  pub within : written ≤ blocks_for (length bytes)
  pub few : length bytes ≤ 81920

-- The blocks written of a checkpoint give its parts, and those that are synced leave nothing else to a crash.
pub record IsBegunOn (slots : ℕ → Slot) (b : Begun) : Type 0 where
  pub written : (k : ℕ) → k < b.written → (content : List ℕ) → Contains (slots (first_block b.region + k)).readable content → content ≡ part_of (checkpoint_bytes b.checkpoint) k
  pub synced : (k : ℕ) → k < b.synced → (content : List ℕ) → Contains (slots (first_block b.region + k)).candidates content → content ≡ part_of (checkpoint_bytes b.checkpoint) k

-- the same where one is begun
abbrev pub IsBegunIf : (ℕ → Slot) → Option Begun → Type 0
IsBegunIf slots None = Unit {0}
IsBegunIf slots (Some b) = IsBegunOn slots b

-- Each region holds what is known of it; each state that a crash may leave names one that holds its checkpoint, and none into
-- which a checkpoint is being written.
pub record AreHeld (slots : ℕ → Slot) (pages : ℕ) (synced newest : ControlState) (since : List ControlState) (held : Held) (begun : Option Begun) : Type 0 where
  pub regions : (r : Region) → HoldsContent slots r (held_in held r)
  pub named : (s : ControlState) → Contains (synced ∷ since) s → IsPublished pages s.published s.position.0 (held_at held s.published)
  pub places : (s : ControlState) → Contains (synced ∷ since) s → (s.published ≡ synced.published) ⊎ (s.published ≡ newest.published)
  pub apart : IsApartIf pages synced newest held begun
  pub begun_on : IsBegunIf slots begun

-- All that a running control block keeps true.
pub record IsKeeping (slots : ℕ → Slot) (pages log_bytes blocks : ℕ) (synced newest : ControlState) (since : List ControlState) (sure : Bool) (held : Held) (begun : Option Begun) : Type 0 where
  pub states : IsKept (slots 0) pages log_bytes blocks synced newest since sure
  pub checkpoints : AreHeld slots pages synced newest since held begun
