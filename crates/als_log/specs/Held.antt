-- What a log keeps between calls: what stands on its device and in memory.
use Rattle.std.specs.Prelude.{◌≡◌, ℕ, ◌<◌, ◌≤◌, ◌+◌, ◌*◌, ◌/◌, List, drop}
use Rattle.als_record.specs.declared.record.Record.{Record}
use Rattle.als_record.specs.LogText.{log_text, end_of, IsLog}
use Rattle.als_disk.specs.Slot.{Slot, IsSettled}
use Rattle.als_log.specs.Local.{IsFrontEnd}
use Rattle.als_log.specs.Near.{IsNear}
use Rattle.als_log.specs.declared.near.Near.{Near}
use Rattle.als_log.specs.Texts.{AllHaveText}

-- A device has the text: below the synced end in whatever a crash may leave, and below the written end in whatever a
-- read may give.
pub record IsStored (slots : ℕ → Slot) (text : List ℕ) (written synced : ℕ) : Type 0 where
  pub kept : AllHaveText (λ b. (slots b).candidates) text synced
  pub stored : AllHaveText (λ b. (slots b).readable) text written

-- A block that ends at or below the synced end, or begins above the written end, has one content, which is synced.
pub record IsSettledBut (slots : ℕ → Slot) (written synced : ℕ) : Type 0 where
  pub before : (k : ℕ) → 512 * k + 512 ≤ synced → IsSettled (slots k)
  pub beyond : (k : ℕ) → written < 512 * k → IsSettled (slots k)

-- Memory has the text from the block of the synced end on.
pub record IsTail (text bytes : List ℕ) (base synced : ℕ) : Type 0 where
  pub held : bytes ≡ drop base text
  pub block : 512 * (base / 512) ≡ base
  pub low : base ≤ synced

-- the log's numbers are in order
pub record InOrder (pages : ℕ) (log : List Record) (written synced blocks : ℕ) : Type 0 where
  pub is_log : IsLog pages log
  pub fits : end_of log ≤ 512 * blocks
  pub within : written ≤ end_of log
  pub order : synced ≤ written
  pub front : IsFrontEnd log synced
  pub few : blocks ≤ 4194304
  pub some : 1 ≤ blocks

-- all of it
pub record IsHeld (pages : ℕ) (log : List Record) (base written synced cursor blocks : ℕ) (bytes : List ℕ) (last : Near) (slots : ℕ → Slot) : Type 0 where
  pub order : InOrder pages log written synced blocks
  pub tail : IsTail (log_text pages log) bytes base synced
  pub stored : IsStored slots (log_text pages log) written synced
  pub settled : IsSettledBut slots written synced
  pub walked : IsFrontEnd log cursor
  pub near : IsNear last (log_text pages log) base

-- the bytes of these records' text from an offset on, for a database of some size
pub record IsText (log : List Record) (bytes : List ℕ) (base : ℕ) : Type 0 where
  pub pages : ℕ
  pub is_log : IsLog pages log
  pub held : bytes ≡ drop base (log_text pages log)
