-- The checkpoints of a control device: two regions of 160 blocks, of which the control block names one at most.
use Rattle.std.specs.Prelude.{◌≡◌, ℕ, ◌+◌, ◌-◌, ◌*◌, ◌/◌, ◌<◌, ◌≤◌, List, ◌++◌, length, take, drop, replicate, Option, None, Some, IsSomeAnd, Contains, slice_index}
use Rattle.als_disk.specs.Slot.{Slot}
use Rattle.als_ckpt_codec.specs.declared.checkpoint.Checkpoint.{Checkpoint}
use Rattle.als_ckpt_codec.specs.Checkpoint.{checkpoint_bytes, IsCheckpoint}
use Rattle.als_ckpt.specs.declared.region.Region.{Region}
use Rattle.als_ckpt.specs.declared.region.Region.TheVariants.{First, Second}
use Rattle.als_ckpt.specs.declared.control_state.ControlState.{ControlState}
use Rattle.als_ckpt.specs.declared.content.Content.{Content}
use Rattle.als_ckpt.specs.declared.content.Content.TheVariants.{Unknown, Whole}

-- the first block of a region
abbrev pub first_block : Region → ℕ
first_block First = 1
first_block Second = 161

-- the region that the next checkpoint is written to: the one that is not published, at first region 1
abbrev pub next_region : Option Region → Region
next_region None = First
next_region (Some First) = Second
next_region (Some Second) = First

-- the bytes at the front of a block, with zeros behind them
unfoldable pub padded : List ℕ → List ℕ
padded front = front ++ replicate (512 - length front) 0

-- block b of a checkpoint: its bytes from 512 * b on, with zeros behind the last one
abbrev pub part_of : List ℕ → ℕ → List ℕ
part_of bytes b = padded (take 512 (drop (512 * b) bytes))

-- how many blocks so many bytes take
unfoldable pub blocks_for : ℕ → ℕ
blocks_for len = (len + 511) / 512

-- how many blocks a checkpoint takes
abbrev pub blocks_of : Checkpoint → ℕ
blocks_of c = blocks_for (length (checkpoint_bytes c))

-- The checkpoint that each region holds whatever a crash leaves, None where that is not known of any.
pub record Held : Type 0 where
  pub first : Option Checkpoint
  pub second : Option Checkpoint

-- no region is known to hold a checkpoint
abbrev pub nothing_held : Held
nothing_held = record { first = None; second = None }

-- what a region holds
abbrev pub held_in : Held → Region → Option Checkpoint
held_in held First = held.first
held_in held Second = held.second

-- one region holds something else
abbrev pub with_held : Held → Region → Option Checkpoint → Held
with_held held First content = record held { first = content }
with_held held Second content = record held { second = content }

-- what a content stands for
abbrev pub standing : Content → Option Checkpoint
standing Unknown = None
standing (Whole checkpoint) = Some checkpoint.value

-- the checkpoint of a published region, None where none is published
abbrev pub held_at : Held → Option Region → Option Checkpoint
held_at held None = None
held_at held (Some region) = held_in held region

-- the regions of a device of which a checkpoint is known to stand in the published one alone
abbrev pub held_of : Option Region → Option Checkpoint → Held
held_of None checkpoint = nothing_held
held_of (Some region) checkpoint = with_held nothing_held region checkpoint

-- A control block, and the checkpoint that it publishes.
pub record Said : Type 0 where
  pub state : ControlState
  pub checkpoint : Option Checkpoint

-- a region is published exactly where there is a checkpoint, which is one of a database with so many pages at the position
abbrev pub IsPublished : ℕ → Option Region → ℕ → Option Checkpoint → Type 0
IsPublished pages None position checkpoint = checkpoint ≡ None
IsPublished pages (Some region) position checkpoint = IsSomeAnd checkpoint (IsCheckpoint pages position)

-- a block has byte 512 * b + o of a checkpoint as its byte o, whatever stands behind the last one
abbrev pub HasPart : List ℕ → ℕ → List ℕ → Type 0
HasPart bytes b content = (o : ℕ) → o < 512 → 512 * b + o < length bytes → slice_index content o ≡ slice_index bytes (512 * b + o)

-- Whatever a crash leaves, the blocks of a region hold this checkpoint, which fits into the region.
pub record HoldsCheckpoint (slots : ℕ → Slot) (region : Region) (c : Checkpoint) : Type 0 where
  pub few : blocks_of c ≤ 160
  pub parts : (b : ℕ) → b < blocks_of c → (content : List ℕ) → Contains (slots (first_block region + b)).candidates content → HasPart (checkpoint_bytes c) b content

-- the same of what is known of a region
abbrev pub HoldsContent : (ℕ → Slot) → Region → Option Checkpoint → Type 0
HoldsContent slots region None = Unit {0}
HoldsContent slots region (Some c) = HoldsCheckpoint slots region c

-- the same of the region that is published
abbrev pub HoldsPublished : (ℕ → Slot) → Option Region → Option Checkpoint → Type 0
HoldsPublished slots None checkpoint = Unit {0}
HoldsPublished slots (Some region) checkpoint = HoldsContent slots region checkpoint

-- A checkpoint that is being written: the region, how many of its blocks are written, and how many of these were written before
-- the last sync, so that no crash loses them.
pub record Begun : Type 0 where
  pub region : Region
  pub checkpoint : Checkpoint
  pub written : ℕ
  pub synced : ℕ

-- what always holds of it
pub record IsBegun (b : Begun) : Type 0 where
  pub order : b.synced ≤ b.written
  pub within : b.written ≤ blocks_of b.checkpoint
  pub few : blocks_of b.checkpoint ≤ 160

-- one more of its blocks is written
abbrev pub with_block : Begun → Begun
with_block b = record b { written = b.written + 1 }

-- the blocks that are written are synced
abbrev pub with_sync : Begun → Begun
with_sync b = record b { synced = b.written }

-- the same of what may be begun
abbrev pub block_written : Option Begun → Option Begun
block_written None = None
block_written (Some b) = Some (with_block b)

abbrev pub blocks_synced : Option Begun → Option Begun
blocks_synced None = None
blocks_synced (Some b) = Some (with_sync b)

-- a block of it is not written yet
abbrev pub HasBlockLeft : Begun → Type 0
HasBlockLeft b = b.written < blocks_of b.checkpoint

-- each of its blocks is written and synced
abbrev pub IsWhole : Begun → Type 0
IsWhole b = blocks_of b.checkpoint ≤ b.synced

-- its position
abbrev pub position_of : Begun → ℕ
position_of b = b.checkpoint.numbers.position.0
