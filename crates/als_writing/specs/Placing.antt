-- Where the next record of a transaction stands.
use Rattle.std.specs.Prelude.{◌≡◌, ℕ, false, List, ◌++◌}
use Rattle.als_record.specs.declared.record.Record.{Record}
use Rattle.als_record.specs.LogText.{spellings, end_of}
use Rattle.als_record.specs.Transactions.{has_ended}
use Rattle.als_record.specs.Validity.{prev_of}
use Rattle.als_writing.specs.Writing.{Move, moved}
use Rattle.als_writing.specs.declared.place.Place.{Place}

-- the place behind a log for a transaction that has not ended
pub record IsPlaceOf (place : Place) (log : List Record) : Type 0 where
  pub end : place.end.0 ≡ end_of log
  pub prev : place.prev.0 ≡ prev_of log place.trans.0
  pub goes_on : has_ended log place.trans.0 ≡ false

-- the bytes of a transaction's moves behind a log up to here, and the place behind them
pub record SoFar (log : List Record) (t : ℕ) (done : List Move) (piece : List ℕ) (place : Place) : Type 0 where
  pub spelled : piece ≡ spellings (moved log t done)
  pub behind : IsPlaceOf place (log ++ moved log t done)
