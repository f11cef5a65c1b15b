-- What callers see of a receiver, and what its calls do.
use Rattle.std.specs.Prelude.{◌≡◌, ℕ, ◌+◌, ◌<◌, ◌≤◌, Bool, true, false, MatchBool, List, [], ◌++◌, length, take, drop, Option, Some, None, MatchOption, Result, Ok, Err}
use Rattle.als_record.specs.declared.fault.Fault.{Fault}
use Rattle.als_record.specs.declared.fault.Fault.TheVariants.{BadHeader, BadLength, BadType, BadReserved, WrongLsn, BadKey, BadValue, Memory}
use Rattle.als_record.specs.declared.record.Record.{Record}
use Rattle.als_record.specs.declared.record_view.RecordView.{RecordView}
use Rattle.als_record.specs.Shown.{shown_found}
use Rattle.als_record.specs.Spelling.{record_len, spelling, IsRecord}
use Rattle.als_record.specs.Reading.{read_record, TakesMemory}
use Rattle.als_receiver.specs.declared.refusal.Refusal.{Refusal}

-- the page count of the database, the LSN of the next record, the bytes kept for it, how many more can be pushed with no
-- memory, and the refusal that stays
pub record Reception : Type 0 where
  pub pages : ℕ
  pub wanted : ℕ
  pub kept : List ℕ
  pub room : ℕ
  pub refusal : Option Refusal

-- a receiver before its first bytes
abbrev pub fresh : ℕ → ℕ → Reception
fresh wanted pages = record { pages = pages; wanted = wanted; kept = []; room = 0; refusal = None }

-- the bytes kept are these and the room is this, and all else stays
abbrev pub with_kept : Reception → List ℕ → ℕ → Reception
with_kept old bytes room = record { pages = old.pages; wanted = old.wanted; kept = bytes; room = room; refusal = old.refusal }

-- the room is this, and all else stays
abbrev pub with_room : Reception → ℕ → Reception
with_room old room = with_kept old old.kept room

-- this refusal stays from now on
abbrev pub with_refusal : Reception → Refusal → Reception
with_refusal old refusal = record { pages = old.pages; wanted = old.wanted; kept = old.kept; room = old.room; refusal = Some refusal }

-- the record at the front of the bytes kept is handed out, and the next one is wanted behind it
pub record HandsOut (old : Reception) (r : Record) (new : Reception) : Type 0 where
  pub unrefused : old.refusal ≡ None
  pub reading : read_record old.pages old.wanted old.kept ≡ Ok (Some (r, record_len r))
  pub place : r.lsn.0 ≡ old.wanted
  pub fits : IsRecord old.pages r
  pub bytes : old.kept ≡ spelling r ++ new.kept
  pub after : new ≡ record { pages = old.pages; wanted = old.wanted + record_len r; kept = new.kept; room = old.room; refusal = None }

-- the bytes kept are less than a record, and nothing changes
pub record Waits (old new : Reception) : Type 0 where
  pub unrefused : old.refusal ≡ None
  pub reading : read_record old.pages old.wanted old.kept ≡ Ok None
  pub short : length old.kept < 54560
  pub same : new ≡ old

-- want of memory is no fault of the bytes
abbrev pub is_memory : Fault → Bool
is_memory Memory = true
is_memory BadHeader = false
is_memory BadLength = false
is_memory BadType = false
is_memory BadReserved = false
is_memory WrongLsn = false
is_memory BadKey = false
is_memory BadValue = false

-- the bytes kept begin with no record: this refusal stays
pub record RefusesBytes (old : Reception) (refusal : Refusal) (new : Reception) : Type 0 where
  pub reading : read_record old.pages old.wanted old.kept ≡ Err refusal.fault
  pub stays : new ≡ with_refusal old refusal

-- memory is wanted for the rows of the end_chkpt that the bytes kept begin with, and nothing changes
pub record WantsMemory (old new : Reception) : Type 0 where
  pub rows : TakesMemory (read_record old.pages old.wanted old.kept)
  pub same : new ≡ old

-- a refusal: the one that stays, else want of memory, or the first of the bytes
abbrev pub Refuses : Reception → Refusal → Reception → Type 0
Refuses old refusal new =
    MatchOption old.refusal
    ((refusal.lsn.0 ≡ old.wanted) × MatchBool (is_memory refusal.fault) (WantsMemory old new) (RefusesBytes old refusal new))
    (λ before. (refusal ≡ before) × (new ≡ old))

-- the record at the front of the bytes kept, of so many bytes, is handed out, and the next one is wanted behind it
abbrev pub behind : Reception → ℕ → Reception
behind old len = record { pages = old.pages; wanted = old.wanted + len; kept = drop len old.kept; room = old.room; refusal = None }

-- the bytes kept begin with a record of so many bytes
pub record IsShown (old : Reception) (len : ℕ) : Type 0 where
  pub shown : Record
  pub unrefused : old.refusal ≡ None
  pub reading : read_record old.pages old.wanted old.kept ≡ Ok (Some (shown, len))
  pub inside : len ≤ length old.kept

-- a record that the next call would hand out, with so many bytes
pub record CanHandOut (old : Reception) (r : Record) (len : ℕ) : Type 0 where
  pub out : HandsOut old r (behind old len)
  pub size : len ≡ record_len r
  pub bytes : take len old.kept ≡ spelling r
  pub inside : len ≤ length old.kept
  pub shown : IsShown old len

-- a refusal of the bytes kept: the one that stays, else the fault of what they begin with, where the record should stand
abbrev pub IsRefusal : Reception → Refusal → Type 0
IsRefusal old refusal =
    MatchOption old.refusal
    ((refusal.lsn.0 ≡ old.wanted) × (read_record old.pages old.wanted old.kept ≡ Err refusal.fault))
    (λ before. refusal ≡ before)

-- what a look at the next record answers: the record and its length, that more bytes are needed, or a refusal
abbrev pub Looks : Reception → Result (Option (Record × ℕ)) Refusal → Type 0
Looks old (Ok (Some x)) = CanHandOut old x.0 x.1
Looks old (Ok None) = Waits old old
Looks old (Err refusal) = IsRefusal old refusal

-- a look whose record is a view's
abbrev pub Shows : Reception → Result (Option (RecordView × ℕ)) Refusal → Type 0
Shows old (Ok found) = Looks old (Ok (shown_found found))
Shows old (Err refusal) = Looks old (Err refusal)

-- the record that a look shows is copied, or memory is wanted for its rows
abbrev pub Copies : Reception → Result (Option (Record × ℕ)) Refusal → Type 0
Copies old (Ok found) = Looks old (Ok found)
Copies old (Err refusal) =
    MatchBool (is_memory refusal.fault)
    ((old.refusal ≡ None) × (refusal.lsn.0 ≡ old.wanted) × TakesMemory (read_record old.pages old.wanted old.kept))
    (IsRefusal old refusal)

-- what a call for the next record answers, and what it leaves
abbrev pub Answers : Reception → Result (Option Record) Refusal → Reception → Type 0
Answers old (Ok (Some r)) new = HandsOut old r new
Answers old (Ok None) new = Waits old new
Answers old (Err refusal) new = Refuses old refusal new
