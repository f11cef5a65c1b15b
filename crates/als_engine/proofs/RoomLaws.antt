-- Where there is room no memory is wanted.
use Rattle.std.proofs.Common.{◌≡◌, ℕ, ◌+◌, ◌<◌, List, length, Option, Some, None, Result, Ok, Err}
use Rattle.std.proofs.Common.{sym, ap, subst}
use Rattle.std.proofs.Common.{length-append, lt-ltb, arith}
use Rattle.std.specs.Prelude.{nat_lt}
use Rattle.std.proofs.lemmas.Bool.{cond-true}
use Rattle.als_record.specs.declared.record.Record.{Record}
use Rattle.als_record.specs.declared.fault.Fault.{Fault as RecordFault}
use Rattle.als_record.specs.Spelling.{record_len, spelling}
use Rattle.als_record.specs.LogText.{end_of}
use Rattle.als_record.specs.Reading.{read_record}
use Rattle.als_record.proofs.RecordLaws.{length-spelling}
use Rattle.als_receiver.specs.Reception.{Reception}
use Rattle.als_store.specs.Spare.{Spare, HasSpare, Holding}
use Rattle.als_store.specs.Stored.{Stored}
use Rattle.als_engine.specs.declared.fault.Fault.{Fault}
use Rattle.als_engine.specs.declared.fault.Fault.TheVariants as fault
use Rattle.als_engine.specs.Feeds.{kept_fault}
use Rattle.als_engine.specs.Serving.{TakesNoMemory, HasRoomForBytes}
use Rattle.als_engine.specs.TakingIn.{TakesOne}

-- less than a head is no record yet
read_record-short : (pages at : ℕ) (bytes : List ℕ) → length bytes < 28
    → read_record pages at bytes ≡ Ok None
unfolding read_record
read_record-short pages at bytes lt =
    cond-true (nat_lt (length bytes) 28) (Ok None) _ (lt-ltb (length bytes) 28 lt)

-- and takes no memory
room_short : (held : Stored) (spare : Spare) (bytes : List ℕ) → length bytes < 28
    → HasRoomForBytes held spare bytes
room_short held spare bytes lt =
    subst (TakesNoMemory held spare bytes)
    (sym (read_record-short held.pages (end_of held.log) bytes lt)) tt

-- behind the one record that there was room for stands nothing that takes memory
pub room_behind : (old new : Holding) (before after : Reception)
    → TakesOne old.stored before new.stored after → HasRoomForBytes old.stored old.spare before.kept
    → HasRoomForBytes new.stored new.spare after.kept
room_behind old new before after one room =
    let front = subst (TakesNoMemory old.stored old.spare before.kept) one.reading room in
    let len : length before.kept ≡ record_len one.logged + length after.kept =
    omega (
      arith,
      ap length one.whole,
      length-append (spelling one.logged) after.kept,
      length-spelling one.logged,
    ) in
    room_short new.stored new.spare after.kept (omega (arith, (front.1 one.good one.fits).1, len))

-- what can be held with no memory still can where the store has no less room
room_still : (held : Stored) (old new : Spare) (bytes : List ℕ)
    (reading : Result (Option (Record × ℕ)) RecordFault)
    → ((r : Record) → HasSpare old r → HasSpare new r)
    → TakesNoMemory held old bytes reading → TakesNoMemory held new bytes reading
room_still held old new bytes (Err fault) keeps room = tt
room_still held old new bytes (Ok None) keeps room = tt
room_still held old new bytes (Ok (Some found)) keeps room =
    (room.0, λ good fits. (keeps found.0 (room.1 good fits).0, (room.1 good fits).1))

pub still_room : (held : Stored) (old new : Spare) (bytes : List ℕ)
    → ((r : Record) → HasSpare old r → HasSpare new r)
    → HasRoomForBytes held old bytes → HasRoomForBytes held new bytes
still_room held old new bytes keeps room =
    room_still held old new bytes (read_record held.pages (end_of held.log) bytes) keeps room

-- want of memory is not kept
pub kept_fault-want : (f : Fault) → kept_fault f ≡ Some fault.Memory → ⊥
kept_fault-want fault.Recovering e = cc e
kept_fault-want fault.Sealed e = cc e
kept_fault-want fault.NotDrained e = cc e
kept_fault-want fault.NotSealed e = cc e
kept_fault-want fault.BadSlot e = cc e
kept_fault-want fault.NumbersSpent e = cc e
kept_fault-want fault.NotPrimary e = cc e
kept_fault-want fault.NotInDoubt e = cc e
kept_fault-want (fault.Diverged seal) e = cc e
kept_fault-want (fault.OtherEpoch epoch) e = cc e
kept_fault-want fault.EpochsSpent e = cc e
kept_fault-want fault.LogBehind e = cc e
kept_fault-want fault.CkptBusy e = cc e
kept_fault-want fault.PoolFull e = cc e
kept_fault-want fault.PageLent e = cc e
kept_fault-want fault.Stranger e = cc e
kept_fault-want (fault.BadPage page) e = cc e
kept_fault-want fault.BadHeader e = cc e
kept_fault-want fault.BadLength e = cc e
kept_fault-want fault.BadType e = cc e
kept_fault-want fault.BadReserved e = cc e
kept_fault-want fault.WrongLsn e = cc e
kept_fault-want fault.BadKey e = cc e
kept_fault-want fault.BadValue e = cc e
kept_fault-want fault.BadPrev e = cc e
kept_fault-want fault.OldTransaction e = cc e
kept_fault-want fault.WrongState e = cc e
kept_fault-want fault.WrongUndoNext e = cc e
kept_fault-want fault.WrongCompensation e = cc e
kept_fault-want (fault.RecordHeld by) e = cc e
kept_fault-want fault.BeforeImage e = cc e
kept_fault-want fault.TooManyTransactions e = cc e
kept_fault-want fault.BadCheckpoint e = cc e
kept_fault-want fault.NothingToDo e = cc e
kept_fault-want fault.LogFull e = cc e
kept_fault-want fault.Device e = cc e
kept_fault-want fault.Stopped e = cc e
kept_fault-want fault.Memory e = cc e
kept_fault-want fault.BadControl e = cc e
kept_fault-want fault.Warming e = cc e
kept_fault-want fault.Backlog e = cc e
kept_fault-want fault.BadConfig e = cc e
