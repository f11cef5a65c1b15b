-- The local log, as its callers see it.
use Rattle.std.specs.Prelude.{◌≡◌, ℕ, ◌≤◌, ◌+◌, ◌*◌, ◌/◌, List, [], ◌∷◌, ◌++◌, min, nat_le, if◌then◌else◌}
use Rattle.als_record.specs.declared.record.Record.{Record}
use Rattle.als_record.specs.Spelling.{record_len}
use Rattle.als_record.specs.LogText.{end_of, IsLog}

-- The database's page count; the records; up to where blocks have been written; the end of the last record that was
-- wholly written at the last sync, 16 if none; how many blocks the device has; how often it has failed; how often it was
-- called to write or to sync; how many bytes can be appended without memory.
pub record Local : Type 0 where
  pub pages : ℕ
  pub log : List Record
  pub written : ℕ
  pub synced : ℕ
  pub blocks : ℕ
  pub failures : ℕ
  pub attempts : ℕ
  pub room : ℕ

-- the end of the last of these records that ends at or below a limit, where they begin at an offset; the offset if there
-- is none
unfoldable pub whole_from : ℕ → ℕ → List Record → ℕ
whole_from limit at [] = at
whole_from limit at (r ∷ rest) = if nat_le (at + record_len r) limit then whole_from limit (at + record_len r) rest else at

-- the end of a log's last record that ends at or below a limit, 16 if there is none
abbrev pub whole_end : List Record → ℕ → ℕ
whole_end log limit = whole_from limit 16 log

-- up to where the blocks are written after one more of them: the log's end or the next block's beginning
abbrev pub next_written : List Record → ℕ → ℕ
next_written log written = min (end_of log) (512 * (written / 512) + 512)

-- an offset at which records of the log end that stand in front of others
pub record IsFrontEnd (log : List Record) (at : ℕ) : Type 0 where
  pub front : List Record
  pub rest : List Record
  pub parts : log ≡ front ++ rest
  pub ends : end_of front ≡ at

-- what always holds
pub record IsLocal (l : Local) : Type 0 where
  pub is_log : IsLog l.pages l.log
  pub fits : end_of l.log ≤ 512 * l.blocks
  pub written : l.written ≤ end_of l.log
  pub synced : l.synced ≤ l.written
  pub synced_front : IsFrontEnd l.log l.synced
  pub few : l.blocks ≤ 4194304
  pub some : 1 ≤ l.blocks

-- a record of this length fits on the device, with these bytes left behind it
abbrev pub HasRoomFor : Local → ℕ → ℕ → Type 0
HasRoomFor l len reserve_after = end_of l.log + len + reserve_after ≤ 512 * l.blocks
