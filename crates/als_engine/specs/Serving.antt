-- An engine, as its callers see it: the small machine, what it can take with no memory, and its
-- tally.
use Rattle.std.specs.Prelude.{◌≡◌, false, ℕ, ◌+◌, ◌<◌, ◌≤◌, List, ◌++◌, length, Option, Some, None}
use Rattle.std.specs.Prelude.{Result, Ok, Err}
use Rattle.als_record.specs.declared.record.Record.{Record}
use Rattle.als_record.specs.declared.fault.Fault.{Fault as RecordFault}
use Rattle.als_record.specs.Reading.{read_record}
use Rattle.als_record.specs.LogText.{end_of}
use Rattle.als_record.specs.Transactions.{is_commit}
use Rattle.als_record.specs.Validity.{first_bad}
use Rattle.als_store.specs.Stored.{Stored, IsTooLong}
use Rattle.als_store.specs.Spare.{Spare, HasSpare}
use Rattle.logbook.specs.Pages.{Book}
use Rattle.als_engine.specs.Machine.{Machine}

pub record Serving : Type 0 where
  -- the small machine's state
  pub machine : Machine
  -- what the store can take with no memory
  pub spare : Spare
  -- how many more bytes can be kept with no memory
  pub room : ℕ
  -- how often each event answered Ok since the tally was started
  pub tally : List ℕ
  -- which view its readers have
  pub book : Book

-- Bytes with this reading take no memory: they begin with no whole record, or with one that is
-- no commit; and if that one can be held, the store has spare room for it, and behind it stands
-- less than the head of another one.
abbrev pub TakesNoMemory : Stored → Spare → List ℕ → Result (Option (Record × ℕ)) RecordFault
    → Type 0
TakesNoMemory held spare bytes (Err fault) = Unit {0}
TakesNoMemory held spare bytes (Ok None) = Unit {0}
TakesNoMemory held spare bytes (Ok (Some found)) =
    (is_commit found.0.body ≡ false)
    × (first_bad held.log found.0 ≡ None → (IsTooLong held found.0 → ⊥)
    → HasSpare spare found.0 × (length bytes < found.1 + 28))

-- the held log goes on with these bytes, as far as they do, with no memory
abbrev pub HasRoomForBytes : Stored → Spare → List ℕ → Type 0
HasRoomForBytes held spare bytes =
    TakesNoMemory held spare bytes (read_record held.pages (end_of held.log) bytes)

-- there is room for a piece of at most 65,536 bytes: for its bytes, and for the record that they
-- complete, if any
pub record HasRoomForPiece (s : Serving) (piece : List ℕ) : Type 0 where
  pub few : length piece ≤ 65536
  pub bytes : length piece ≤ s.room
  pub front : HasRoomForBytes s.machine.held s.spare (s.machine.partial ++ piece)
