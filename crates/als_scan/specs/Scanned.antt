-- A log on a device that is read record by record, as callers see it.
use Rattle.std.specs.Prelude.{◌≡◌, ◌≢◌, ◌⊎◌, ℕ, ◌<◌, ◌≤◌, ◌*◌, Bool, List, [], ◌∷◌, ◌++◌, length, take, drop, Option, Some, None, Result, Ok, Err}
use Rattle.als_record.specs.declared.fault.Fault.{Fault as ShapeFault}
use Rattle.als_record.specs.declared.fault.Fault.TheVariants as shape
use Rattle.als_record.specs.declared.cause.Cause.{Cause}
use Rattle.als_record.specs.declared.record.Record.{Record}
use Rattle.als_record.specs.Spelling.{record_len}
use Rattle.als_record.specs.Reading.{read_record}
use Rattle.als_record.specs.HeaderReading.{read_header}
use Rattle.als_record.specs.LogText.{log_text, end_of}
use Rattle.als_record.specs.Validity.{IsValidLog, first_bad}
use Rattle.als_disk.specs.Slot.{Slot, IsSettled}
use Rattle.als_log.specs.Local.{Local}
use Rattle.als_scan.specs.declared.fault.Fault.{Fault}
use Rattle.als_scan.specs.declared.fault.Fault.TheVariants.{Shape, Invalid, BadControl, Device, Memory}
use Rattle.als_scan.specs.Judged.{Judged, Reads, position_of}
use Rattle.als_scan.specs.Texts.{text_of, slots_from}

-- The database's page count; the records handed out so far; up to where the log is read; the text below that mark; what stands
-- in the device's blocks, how many it has, how often it has failed, and how often it was called to write or to sync.
pub record Scanned : Type 0 where
  pub pages : ℕ
  pub log : List Record
  pub mark : ℕ
  pub text : List ℕ
  pub slots : List Slot
  pub blocks : ℕ
  pub failures : ℕ
  pub attempts : ℕ

-- records handed out, of the text below a mark on a device with this in its blocks
abbrev pub scanned : ℕ → List Record → ℕ → (ℕ → Slot) → ℕ → ℕ → ℕ → Scanned
scanned pages log mark slots blocks failures attempts = record {
  pages = pages;
  log = log;
  mark = mark;
  text = text_of slots mark;
  slots = slots_from 0 blocks slots;
  blocks = blocks;
  failures = failures;
  attempts = attempts;
}

-- what always holds: the records are a valid log, and the text goes on behind theirs
pub record IsScanned (s : Scanned) : Type 0 where
  pub valid : IsValidLog s.pages s.log
  pub rest : List ℕ
  pub parts : s.text ≡ log_text s.pages s.log ++ rest
  pub size : length s.text ≡ s.mark
  pub high : s.mark ≤ 512 * s.blocks
  pub few : s.blocks ≤ 4194304

-- the text behind the records handed out, read as the next one
abbrev pub next_reading : Scanned → Result (Option (Record × ℕ)) ShapeFault
next_reading s = read_record s.pages (end_of s.log) (drop (end_of s.log) s.text)

-- the whole text is that of the records handed out
pub record IsWhole (s : Scanned) : Type 0 where
  pub text_is : s.text ≡ log_text s.pages s.log
  pub end_is : end_of s.log ≡ s.mark

-- the next record of the text is handed out, which may follow those before it
pub record HandsOut (old : Scanned) (r : Record) (new : Scanned) : Type 0 where
  pub reading : next_reading old ≡ Ok (Some (r, record_len r))
  pub good : first_bad old.log r ≡ None
  pub after : new ≡ record old { log = old.log ++ r ∷ [] }

-- that, or there is none
abbrev pub HandsNext : Scanned → Option Record → Scanned → Type 0
HandsNext old (Some r) new = HandsOut old r new
HandsNext old None new = IsWhole old × (new ≡ old)

-- the next record of the text may not follow those before it
pub record HasBadNext (s : Scanned) (cause : Cause) : Type 0 where
  pub bad : Record
  pub reading : next_reading s ≡ Ok (Some (bad, record_len bad))
  pub cause_is : first_bad s.log bad ≡ Some cause

-- the text ends within a record
pub record EndsWithin (s : Scanned) : Type 0 where
  pub reading : next_reading s ≡ Ok None
  pub some : end_of s.log < s.mark

-- Why no record is handed out. Only a failed device changes anything, its count of failures.
abbrev pub RefusesNext : Scanned → Fault → Scanned → Type 0
RefusesNext old (Shape fault) new = (next_reading old ≡ Err fault) × (new ≡ old)
RefusesNext old (Invalid cause) new = HasBadNext old cause × (new ≡ old)
RefusesNext old BadControl new = EndsWithin old × (new ≡ old)
RefusesNext old Device new = (old.failures < new.failures) × (new ≡ record old { failures = new.failures })
RefusesNext old Memory new = new ≡ old

-- the first of some records
abbrev pub first_of : List Record → Option Record
first_of [] = None
first_of (r ∷ rest) = Some r

-- Over the text of a log the records handed out are a front of it, and its next record is handed out, or none behind the last.
pub record GivesNext (log front : List Record) (found : Option Record) : Type 0 where
  pub rest : List Record
  pub parts : log ≡ front ++ rest
  pub found_is : found ≡ first_of rest

-- that, or the device has failed or allocation failed
abbrev pub GivesNextOf : List Record → List Record → Result (Option Record) Fault → Type 0
GivesNextOf log front (Ok found) = GivesNext log front found
GivesNextOf log front (Err fault) = (fault ≡ Device) ⊎ (fault ≡ Memory)

-- the records of a log begin with these
pub record BeginsSo (log front : List Record) : Type 0 where
  pub rest : List Record
  pub parts : log ≡ front ++ rest

-- over the text of a log the records handed out are still a front of it, or the device has failed or allocation failed
abbrev pub GoesOnOf : List Record → List Record → Result Bool Fault → Type 0
GoesOnOf log front (Ok more) = BeginsSo log front
GoesOnOf log front (Err fault) = (fault ≡ Device) ⊎ (fault ≡ Memory)

-- why a text of which the header is to be read first is not read at all
abbrev pub RefusesHeader : Fault → List ℕ → ℕ → ℕ → ℕ → Type 0
RefusesHeader (Shape fault) text pages before now =
    (fault ≡ shape.BadHeader) × (read_header (take 16 text) ≢ Ok (Some (record { pages = pages }))) × (now ≡ before)
RefusesHeader Device text pages before now = before < now
RefusesHeader Memory text pages before now = now ≡ before
RefusesHeader (Invalid cause) text pages before now = ⊥
RefusesHeader BadControl text pages before now = ⊥

-- why a log that was read is not taken up again
abbrev pub RefusesLog : Fault → ℕ → ℕ → Type 0
RefusesLog Device before now = before < now
RefusesLog Memory before now = now ≡ before
RefusesLog (Shape fault) before now = ⊥
RefusesLog (Invalid cause) before now = ⊥
RefusesLog BadControl before now = ⊥

-- a log all of which is written and synced
abbrev pub taken_up : Scanned → ℕ → Local
taken_up s room = record {
  pages = s.pages;
  log = s.log;
  written = s.mark;
  synced = s.mark;
  blocks = s.blocks;
  failures = s.failures;
  attempts = s.attempts;
  room = room;
}

-- what a scan is made of
pub record IsScan (pages mark blocks : ℕ) (slots : ℕ → Slot) (j : Judged) : Type 0 where
  pub settled : (k : ℕ) → IsSettled (slots k)
  pub few : blocks ≤ 4194304
  pub low : 16 ≤ mark
  pub high : mark ≤ 512 * blocks
  pub page_count : j.pages ≡ pages
  pub within : position_of j ≤ mark
  pub reads : Reads (text_of slots mark) j
  pub valid : IsValidLog pages j.log
