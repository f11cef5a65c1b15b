-- Why a look back is refused.
use Rattle.std.specs.Prelude.{◌≡◌, ◌≢◌, ◌⊎◌, ℕ, ◌<◌, ◌≤◌, List, [], ◌++◌, length, Option, Some, None, Result, Ok, Err, IfSome}
use Rattle.als_record.specs.declared.fault.Fault.{Fault as ShapeFault}
use Rattle.als_record.specs.declared.cause.Cause.{Cause}
use Rattle.als_record.specs.declared.header.LogHeader.{LogHeader}
use Rattle.als_record.specs.declared.record.Record.{Record}
use Rattle.als_record.specs.Spelling.{record_len}
use Rattle.als_record.specs.Reading.{read_record}
use Rattle.als_record.specs.HeaderReading.{read_header}
use Rattle.als_record.specs.LogText.{log_text, end_of}
use Rattle.als_record.specs.Validity.{IsValidLog, first_bad}
use Rattle.als_lookback.specs.declared.fault.Fault.{Fault}
use Rattle.als_lookback.specs.declared.fault.Fault.TheVariants.{Memory, Stream, BadHeader, BadControl, Cut, Folder, Shape, Invalid, InHeader, PastEnd, NoCommit, NotLonger, TooLong}
use Rattle.als_lookback.specs.declared.until.Until.{Until}
use Rattle.als_lookback.specs.declared.until.Until.TheVariants.{End, At}
use Rattle.als_lookback.specs.Fronts.{IsWholeOf, EndsWithin}
use Rattle.als_lookback.specs.Judged.{Judged, HasBad, reading_of}
use Rattle.als_lookback.specs.Readings.{Reading, judged_in, IsReady}

-- a taker fails for want of memory, or its output does
abbrev pub IsOfTaker : Fault → Type 0
IsOfTaker fault = (fault ≡ Memory) ⊎ (fault ≡ Stream)

-- why a record is not admitted behind a log
abbrev pub IsCauseAt : List Record → Record → Fault → Type 0
IsCauseAt log r (Invalid cause) = first_bad log r ≡ Some cause
IsCauseAt log r Memory = Unit {0}
IsCauseAt log r Stream = ⊥
IsCauseAt log r BadHeader = ⊥
IsCauseAt log r BadControl = ⊥
IsCauseAt log r Cut = ⊥
IsCauseAt log r (Folder fault) = ⊥
IsCauseAt log r (Shape fault) = ⊥
IsCauseAt log r InHeader = ⊥
IsCauseAt log r (PastEnd end) = ⊥
IsCauseAt log r NoCommit = ⊥
IsCauseAt log r (NotLonger blocks) = ⊥
IsCauseAt log r TooLong = ⊥

-- no byte is left behind the records, which end here and below the LSN
abbrev pub EndsBelowLsn : Until → Judged → ℕ → Type 0
EndsBelowLsn End j end = ⊥
EndsBelowLsn (At lsn) j end = (reading_of j ≡ Ok None) × (length j.kept ≡ 0) × (end ≡ end_of j.log) × (end_of j.log < lsn.0)

-- Why the next record is not taken: the bytes are none, or it may not follow; no more bytes come, and those that came end within it; or
-- the log ends below the LSN.
abbrev pub RefusesIn : Until → Judged → Fault → Type 0
RefusesIn until j Memory = Unit {0}
RefusesIn until j Stream = Unit {0}
RefusesIn until j (Shape fault) = reading_of j ≡ Err fault
RefusesIn until j (Invalid cause) = HasBad j cause
RefusesIn until j Cut = (reading_of j ≡ Ok None) × (0 < length j.kept)
RefusesIn until j (PastEnd end) = EndsBelowLsn until j end.0
RefusesIn until j BadHeader = ⊥
RefusesIn until j BadControl = ⊥
RefusesIn until j (Folder fault) = ⊥
RefusesIn until j InHeader = ⊥
RefusesIn until j NoCommit = ⊥
RefusesIn until j (NotLonger blocks) = ⊥
RefusesIn until j TooLong = ⊥

-- that, and it is no want of bytes that the reader still has
pub record RefusesNext (until : Until) (r : Reading) (fault : Fault) : Type 0 where
  pub refused : RefusesIn until (judged_in r) fault
  pub spent : IsReady (judged_in r) r.unread

-- The text, where it is known, begins with these bytes, which are as many as a header has or all of the text, and are read as no header.
pub record HasNoHeader (text : Option (List ℕ)) : Type 0 where
  pub front : List ℕ
  pub rest : List ℕ
  pub parts : IfSome text (λ bytes. bytes ≡ front ++ rest)
  pub enough : (16 ≤ length front) ⊎ (rest ≡ [])
  pub none : (h : LogHeader) → read_header front ≢ Ok (Some h)

-- behind a valid log with which the text begins, where it is known, the bytes are read so
pub record ReadsNext (text : Option (List ℕ)) (until : Until) (found : Result (Option (Record × ℕ)) ShapeFault) : Type 0 where
  pub pages : ℕ
  pub log : List Record
  pub rest : List ℕ
  pub valid : IsValidLog pages log
  pub within : EndsWithin until log
  pub parts : IfSome text (λ bytes. bytes ≡ log_text pages log ++ rest)
  pub reading : read_record pages (end_of log) rest ≡ found

-- behind a valid log with which the text begins, where it is known, stands a record that may not follow it
pub record MayNotFollow (text : Option (List ℕ)) (until : Until) (cause : Cause) : Type 0 where
  pub pages : ℕ
  pub log : List Record
  pub bad : Record
  pub rest : List ℕ
  pub valid : IsValidLog pages log
  pub within : EndsWithin until log
  pub parts : IfSome text (λ bytes. bytes ≡ log_text pages log ++ rest)
  pub reading : read_record pages (end_of log) rest ≡ Ok (Some (bad, record_len bad))
  pub cause_is : first_bad log bad ≡ Some cause

-- a valid log is all of the text, where it is known, and ends here
pub record EndsAt (text : Option (List ℕ)) (end : ℕ) : Type 0 where
  pub pages : ℕ
  pub log : List Record
  pub whole : IsWholeOf text pages log
  pub end_is : end_of log ≡ end

-- Why a text is not looked at up to there. Each cause but want of memory and a failed stream is one of the text, or of the LSN.
abbrev pub RefusesLook : Option (List ℕ) → Until → Fault → Type 0
RefusesLook text until Memory = Unit {0}
RefusesLook text until Stream = Unit {0}
RefusesLook text until BadHeader = HasNoHeader text
RefusesLook text until (Shape fault) = ReadsNext text until (Err fault)
RefusesLook text until (Invalid cause) = MayNotFollow text until cause
RefusesLook text until Cut = ReadsNext text until (Ok None)
RefusesLook text End InHeader = ⊥
RefusesLook text (At lsn) InHeader = lsn.0 < 16
RefusesLook text End (PastEnd end) = ⊥
RefusesLook text (At lsn) (PastEnd end) = EndsAt text end.0 × (end.0 < lsn.0)
RefusesLook text until BadControl = ⊥
RefusesLook text until (Folder fault) = ⊥
RefusesLook text until NoCommit = ⊥
RefusesLook text until (NotLonger blocks) = ⊥
RefusesLook text until TooLong = ⊥
