-- The valid log in front of bytes that come in pieces, and the bytes behind it that are not judged yet.
use Rattle.std.specs.Prelude.{◌≡◌, ℕ, ◌+◌, true, List, [], ◌∷◌, ◌++◌, length, Option, Some, None, Result, Ok}
use Rattle.als_record.specs.declared.fault.Fault.{Fault as ShapeFault}
use Rattle.als_record.specs.declared.cause.Cause.{Cause}
use Rattle.als_record.specs.declared.record.Record.{Record}
use Rattle.als_record.specs.Spelling.{record_len, spelling}
use Rattle.als_record.specs.Reading.{read_record}
use Rattle.als_record.specs.LogText.{end_of}
use Rattle.als_record.specs.Validity.{IsValidLog, first_bad}
use Rattle.als_receiver.specs.Reception.{Reception}
use Rattle.als_validator.specs.declared.validator.Validator.{Validator}
use Rattle.als_validator.specs.Validated.{IsValidatorOf, judges}
use Rattle.als_lookback.specs.declared.until.Until.{Until}
use Rattle.als_lookback.specs.declared.until.Until.TheVariants.{End, At}
use Rattle.als_lookback.specs.Fronts.{NextEndsAbove}

-- the database's page count, the records judged so far, and the bytes behind them that have come
pub record Judged : Type 0 where
  pub pages : ℕ
  pub log : List Record
  pub kept : List ℕ

-- a judge before the first record
abbrev pub begun : ℕ → Judged
begun pages = record { pages = pages; log = []; kept = [] }

-- the offset of the byte that comes next
abbrev pub position_of : Judged → ℕ
position_of j = end_of j.log + length j.kept

-- the bytes that have come, read as the next record
abbrev pub reading_of : Judged → Result (Option (Record × ℕ)) ShapeFault
reading_of j = read_record j.pages (end_of j.log) j.kept

-- what a judge is made of
pub record IsJudge (received : Reception) (v : Validator) (log : List Record) : Type 0 where
  pub valid : IsValidLog received.pages log
  pub known : IsValidatorOf received.pages v log
  pub judging : judges v ≡ true
  pub wanted : received.wanted ≡ end_of log
  pub unrefused : received.refusal ≡ None

-- the next record was whole, and may follow: it is behind the others now
pub record Takes (old : Judged) (r : Record) (new : Judged) : Type 0 where
  pub reading : reading_of old ≡ Ok (Some (r, record_len r))
  pub good : first_bad old.log r ≡ None
  pub bytes : old.kept ≡ spelling r ++ new.kept
  pub after : new ≡ record { pages = old.pages; log = old.log ++ r ∷ []; kept = new.kept }

-- no byte is left where the log is wanted to its end; else the next record may follow, and ends above the LSN
abbrev pub Stops : Until → Judged → Type 0
Stops End j = (reading_of j ≡ Ok None) × (length j.kept ≡ 0)
Stops (At lsn) j = NextEndsAbove lsn.0 j.pages j.log j.kept

-- the next record is whole, and may not follow
pub record HasBad (j : Judged) (cause : Cause) : Type 0 where
  pub bad : Record
  pub reading : reading_of j ≡ Ok (Some (bad, record_len bad))
  pub cause_is : first_bad j.log bad ≡ Some cause
