-- The front of a log that a look takes: its records up to the end, or up to the last one that ends at or below an LSN.
use Rattle.std.specs.Prelude.{◌≡◌, ◌⊎◌, ℕ, ◌+◌, ◌<◌, ◌≤◌, List, [], ◌++◌, Bool, true, false, nat_le, ◌==◌, Option, Some, None, Ok, IfSome}
use Rattle.als_record.specs.declared.record.Record.{Record}
use Rattle.als_record.specs.Spelling.{record_len}
use Rattle.als_record.specs.Reading.{read_record}
use Rattle.als_record.specs.LogText.{log_text, end_of}
use Rattle.als_record.specs.Validity.{IsValidLog, first_bad}
use Rattle.als_lookback.specs.declared.until.Until.{Until}
use Rattle.als_lookback.specs.declared.until.Until.TheVariants.{End, At}

-- behind these records stands one that may follow them, and that ends above an offset
pub record NextEndsAbove (at pages : ℕ) (front : List Record) (rest : List ℕ) : Type 0 where
  pub next : Record
  pub reading : read_record pages (end_of front) rest ≡ Ok (Some (next, record_len next))
  pub good : first_bad front next ≡ None
  pub above : at < end_of front + record_len next

-- A look stops behind these records, with these bytes behind them: where no byte is left, or where the records end at the LSN, or end
-- below it and the next one ends above it.
abbrev pub StopsBehind : Until → ℕ → List Record → List ℕ → Type 0
StopsBehind End pages front rest = rest ≡ []
StopsBehind (At lsn) pages front rest = (end_of front ≤ lsn.0) × ((end_of front ≡ lsn.0) ⊎ NextEndsAbove lsn.0 pages front rest)

-- whether records end where a look may still go on
abbrev pub EndsWithin : Until → List Record → Type 0
EndsWithin End front = Unit {0}
EndsWithin (At lsn) front = end_of front ≤ lsn.0

-- whether they end below where it stops
abbrev pub EndsBelow : Until → List Record → Type 0
EndsBelow End front = Unit {0}
EndsBelow (At lsn) front = end_of front < lsn.0

-- whether a record that ends at an offset is taken
abbrev pub is_within : Until → ℕ → Bool
is_within End end = true
is_within (At lsn) end = nat_le end lsn.0

-- whether a look stops at an offset without another record
abbrev pub is_reached : Until → ℕ → Bool
is_reached End end = false
is_reached (At lsn) end = end == lsn.0

-- The records are what a look takes of the log that a text, where it is known, is or begins with.
pub record IsFrontOf (text : Option (List ℕ)) (until : Until) (pages : ℕ) (front : List Record) : Type 0 where
  pub valid : IsValidLog pages front
  pub rest : List ℕ
  pub parts : IfSome text (λ bytes. bytes ≡ log_text pages front ++ rest)
  pub stops : StopsBehind until pages front rest

-- these records are a log, and all of the text where it is known
pub record IsWholeOf (text : Option (List ℕ)) (pages : ℕ) (log : List Record) : Type 0 where
  pub valid : IsValidLog pages log
  pub parts : IfSome text (λ bytes. bytes ≡ log_text pages log)
