-- The valid log in front of bytes that come in pieces, and the bytes behind it that are not judged yet.
use Rattle.std.specs.Prelude.{◌≡◌, ℕ, ◌<◌, ◌+◌, true, List, [], ◌∷◌, ◌++◌, length, take, Contains, Option, Some, None, Result, Ok, Err, ◌≢◌}
use Rattle.als_record.specs.declared.fault.Fault.{Fault as ShapeFault}
use Rattle.als_record.specs.declared.fault.Fault.TheVariants as shape
use Rattle.als_record.specs.declared.cause.Cause.{Cause}
use Rattle.als_record.specs.declared.record.Record.{Record}
use Rattle.als_record.specs.Spelling.{record_len, spelling}
use Rattle.als_record.specs.Reading.{read_record}
use Rattle.als_record.specs.HeaderReading.{read_header}
use Rattle.als_record.specs.LogText.{header_bytes, log_text, end_of}
use Rattle.als_record.specs.Validity.{IsValidLog, first_bad}
use Rattle.als_disk.specs.Slot.{Slot}
use Rattle.als_receiver.specs.Reception.{Reception}
use Rattle.als_validator.specs.declared.validator.Validator.{Validator}
use Rattle.als_validator.specs.Validated.{IsValidatorOf, judges}
use Rattle.als_scan.specs.declared.fault.Fault.{Fault}
use Rattle.als_scan.specs.declared.fault.Fault.TheVariants.{Shape, Invalid, BadControl, Device, Memory}

-- the database's page count, the records judged so far, and the bytes behind them that have come
pub record Judged : Type 0 where
  pub pages : ℕ
  pub log : List Record
  pub kept : List ℕ

-- a judge before the first record
abbrev pub begun : ℕ → Judged
begun pages = record { pages = pages; log = []; kept = [] }

-- the offset of the byte that comes next
abbrev pub position_of : Judged → ℕ
position_of j = end_of j.log + length j.kept

-- the bytes that have come, read as the next record
abbrev pub reading_of : Judged → Result (Option (Record × ℕ)) ShapeFault
reading_of j = read_record j.pages (end_of j.log) j.kept

-- what a judge is made of
pub record IsJudge (received : Reception) (v : Validator) (log : List Record) : Type 0 where
  pub valid : IsValidLog received.pages log
  pub known : IsValidatorOf received.pages v log
  pub judging : judges v ≡ true
  pub wanted : received.wanted ≡ end_of log
  pub unrefused : received.refusal ≡ None

-- the next record was whole, and may follow: it is behind the others now
pub record Takes (old : Judged) (r : Record) (new : Judged) : Type 0 where
  pub reading : reading_of old ≡ Ok (Some (r, record_len r))
  pub good : first_bad old.log r ≡ None
  pub bytes : old.kept ≡ spelling r ++ new.kept
  pub after : new ≡ record { pages = old.pages; log = old.log ++ r ∷ []; kept = new.kept }

-- that, or no byte is left, and nothing changed
abbrev pub TakesNext : Judged → Option Record → Judged → Type 0
TakesNext old (Some r) new = Takes old r new
TakesNext old None new = (reading_of old ≡ Ok None) × (length old.kept ≡ 0) × (new ≡ old)

-- the next record is whole, and may not follow
pub record HasBad (j : Judged) (cause : Cause) : Type 0 where
  pub bad : Record
  pub reading : reading_of j ≡ Ok (Some (bad, record_len bad))
  pub cause_is : first_bad j.log bad ≡ Some cause

-- why the next record is not taken: BadControl where the bytes are less than one; nothing is said of want of memory
abbrev pub Refuses : Judged → Fault → Type 0
Refuses j (Shape fault) = reading_of j ≡ Err fault
Refuses j (Invalid cause) = HasBad j cause
Refuses j Memory = Unit {0}
Refuses j BadControl = (reading_of j ≡ Ok None) × (0 < length j.kept)
Refuses j Device = ⊥

-- why a record is not admitted behind a log
abbrev pub IsCauseAt : List Record → Record → Fault → Type 0
IsCauseAt log r (Invalid cause) = first_bad log r ≡ Some cause
IsCauseAt log r Memory = Unit {0}
IsCauseAt log r (Shape fault) = ⊥
IsCauseAt log r BadControl = ⊥
IsCauseAt log r Device = ⊥

-- a text is that of the records judged, the bytes that have come, and others
pub record Reads (text : List ℕ) (j : Judged) : Type 0 where
  pub rest : List ℕ
  pub parts : text ≡ log_text j.pages j.log ++ (j.kept ++ rest)

-- the next record is whole, or all bytes below the mark have come
abbrev pub IsReady : Judged → ℕ → Type 0
IsReady j mark = reading_of j ≡ Ok None → position_of j ≡ mark

-- a block was not read: the device has failed, or there was no memory for its bytes
abbrev pub FailsToRead : Fault → ℕ → ℕ → Type 0
FailsToRead Device before now = before < now
FailsToRead Memory before now = now ≡ before
FailsToRead (Shape fault) before now = ⊥
FailsToRead (Invalid cause) before now = ⊥
FailsToRead BadControl before now = ⊥

-- block 0 begins with the header of a log of a database with this many pages
pub record HasHeader (slots : ℕ → Slot) (pages : ℕ) : Type 0 where
  pub block : List ℕ
  pub given : Contains (slots 0).readable block
  pub is : take 16 block ≡ header_bytes pages

-- it begins with another header, or with none
pub record HasOtherHeader (slots : ℕ → Slot) (pages : ℕ) : Type 0 where
  pub block : List ℕ
  pub given : Contains (slots 0).readable block
  pub is_not : read_header (take 16 block) ≢ Ok (Some (record { pages = pages }))

-- why reading did not begin, by block 0
abbrev pub FailsToBegin : Fault → (ℕ → Slot) → ℕ → ℕ → ℕ → Type 0
FailsToBegin (Shape fault) slots pages before now = (fault ≡ shape.BadHeader) × HasOtherHeader slots pages × (now ≡ before)
FailsToBegin Device slots pages before now = before < now
FailsToBegin Memory slots pages before now = now ≡ before
FailsToBegin (Invalid cause) slots pages before now = ⊥
FailsToBegin BadControl slots pages before now = ⊥
