-- A log that is read from its beginning, piece by piece.
use Rattle.std.specs.Prelude.{◌≡◌, ◌⊎◌, ℕ, List, ◌++◌, Option, Ok, None}
use Rattle.std.specs.Io.KnownBytes.{Consumes, IsAtEnd}
use Rattle.als_record.specs.declared.record.Record.{Record}
use Rattle.als_record.specs.LogText.{log_text, end_of}
use Rattle.als_lookback.specs.Judged.{Judged, reading_of, Stops}
use Rattle.als_lookback.specs.declared.until.Until.{Until}
use Rattle.als_lookback.specs.declared.until.Until.TheVariants.{End, At}

-- The database's page count, the records taken so far, the bytes behind them that were read, and those that the reader has left, where
-- they are known.
pub record Reading : Type 0 where
  pub pages : ℕ
  pub log : List Record
  pub kept : List ℕ
  pub unread : Option (List ℕ)

-- the records and the bytes behind them, as they are judged
abbrev pub judged_in : Reading → Judged
judged_in r = record { pages = r.pages; log = r.log; kept = r.kept }

-- what was read of a text are the records taken, and the bytes behind them
abbrev pub Reads : Option (List ℕ) → Reading → Type 0
Reads text r = Consumes text r.unread (log_text r.pages r.log ++ r.kept)

-- nothing is left of the reader's bytes
abbrev pub IsSpent : Reading → Type 0
IsSpent r = IsAtEnd r.unread

-- why no more records are taken
abbrev pub HasStopped : Until → Reading → Type 0
HasStopped End r = Stops End (judged_in r) × IsSpent r
HasStopped (At lsn) r = (end_of r.log ≡ lsn.0) ⊎ Stops (At lsn) (judged_in r)

-- the next record is whole, or nothing is left to be read
abbrev pub IsReady : Judged → Option (List ℕ) → Type 0
IsReady j unread = reading_of j ≡ Ok None → IsAtEnd unread
