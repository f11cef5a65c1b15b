-- The feed rule.
use Rattle.std.specs.Prelude.{◌≡◌, ℕ, ◌-◌, ◌⊎◌, List, [], ◌∷◌, ◌++◌, length, Option, Some, None}
use Rattle.std.specs.Prelude.{MatchOption, Result, Ok, Err}
use Rattle.als_record.specs.declared.record.Record.{Record}
use Rattle.als_record.specs.declared.fault.Fault.{Fault as RecordFault}
use Rattle.als_record.specs.declared.cause.Cause.{Cause}
use Rattle.als_record.specs.Reading.{read_record}
use Rattle.als_record.specs.Spelling.{record_len}
use Rattle.als_record.specs.LogText.{spellings, end_of}
use Rattle.als_record.specs.Validity.{first_bad, IsValidLog}
use Rattle.als_store.specs.Stored.{Stored, with_records, IsTooLong}
use Rattle.als_engine.specs.declared.fault.Fault.{Fault}
use Rattle.als_engine.specs.declared.fault.Fault.TheVariants.{BadHeader, BadLength, BadType}
use Rattle.als_engine.specs.declared.fault.Fault.TheVariants.{BadReserved, WrongLsn, BadKey}
use Rattle.als_engine.specs.declared.fault.Fault.TheVariants.{BadValue, BadPrev, OldTransaction}
use Rattle.als_engine.specs.declared.fault.Fault.TheVariants.{WrongState, WrongUndoNext}
use Rattle.als_engine.specs.declared.fault.Fault.TheVariants.{WrongCompensation, RecordHeld}
use Rattle.als_engine.specs.declared.fault.Fault.TheVariants.{BeforeImage, TooManyTransactions}
use Rattle.als_engine.specs.declared.fault.Fault.TheVariants.{BadCheckpoint, Recovering, Sealed}
use Rattle.als_engine.specs.declared.fault.Fault.TheVariants.{LogBehind, NotDrained, CkptBusy}
use Rattle.als_engine.specs.declared.fault.Fault.TheVariants.{PoolFull, NothingToDo, LogFull}
use Rattle.als_engine.specs.declared.fault.Fault.TheVariants.{Device, Stopped, Memory, BadPage}
use Rattle.als_engine.specs.declared.fault.Fault.TheVariants.{BadControl, Warming, Backlog}
use Rattle.als_engine.specs.declared.fault.Fault.TheVariants.{BadConfig, NotSealed, PageLent}
use Rattle.als_engine.specs.declared.fault.Fault.TheVariants.{Stranger, BadSlot, NumbersSpent}
use Rattle.als_engine.specs.declared.fault.Fault.TheVariants.{NotPrimary, NotInDoubt}
use Rattle.als_engine.specs.declared.fault.Fault.TheVariants.{Diverged, OtherEpoch, EpochsSpent}
use Rattle.als_engine.specs.declared.fed.Fed.{Fed}
use Rattle.als_engine.specs.declared.fed.FeedFault.{FeedFault}
use Rattle.als_engine.specs.Faults.{from_record, from_cause}
use Rattle.als_engine.specs.Machine.{Machine}

-- the held log with more records
abbrev pub grown : Stored → List Record → Stored
grown held records = with_records held records

-- the log device has room for each record after those before it, with the tail that a takeover
-- would then append
abbrev pub AllFit : Stored → List Record → Type 0
AllFit held [] = Unit {0}
AllFit held (r ∷ rest) = (IsTooLong held r → ⊥) × AllFit (grown held (r ∷ [])) rest

-- the bytes are the spellings of records that the held log goes on with, and then a rest
pub record Splits (held : Stored) (bytes : List ℕ) (records : List Record)
    (rest : List ℕ) : Type 0 where
  pub whole : bytes ≡ spellings records ++ rest
  pub is_log : IsValidLog held.pages (held.log ++ records)
  pub fit : AllFit held records

-- all of the piece is taken: the rest is no whole record yet
pub record FeedsAll (old : Machine) (piece : List ℕ) (fed : Fed) (new : Machine) : Type 0 where
  pub records : List Record
  pub rest : List ℕ
  pub split : Splits old.held (old.partial ++ piece) records rest
  pub waits : read_record old.held.pages (end_of (old.held.log ++ records)) rest ≡ Ok None
  pub after : new ≡ record old { held = grown old.held records; partial = rest }
  pub taken : fed.taken ≡ length piece
  pub count : fed.records ≡ length records

-- Why a held log does not go on with the rest: it begins with a shape fault, with a record that may
-- not follow, for its first cause, or with one for which the log device has no room; or a growth
-- was refused.
abbrev pub IsCause : Stored → List ℕ → Fault → Type 0
IsCause held rest fault =
    ((f : RecordFault) × (read_record held.pages (end_of held.log) rest ≡ Err f)
    × (fault ≡ from_record f))
    ⊎ (((r : Record) × (c : Cause)
    × (read_record held.pages (end_of held.log) rest ≡ Ok (Some (r, record_len r)))
    × (first_bad held.log r ≡ Some c) × (fault ≡ from_cause c))
    ⊎ (((r : Record)
    × (read_record held.pages (end_of held.log) rest ≡ Ok (Some (r, record_len r)))
    × (first_bad held.log r ≡ None) × IsTooLong held r × (fault ≡ LogFull))
    ⊎ (fault ≡ Memory)))

-- want of room and of memory are not kept: the bytes may be fed again
abbrev pub kept_fault : Fault → Option Fault
kept_fault BadHeader = Some BadHeader
kept_fault BadLength = Some BadLength
kept_fault BadType = Some BadType
kept_fault BadReserved = Some BadReserved
kept_fault WrongLsn = Some WrongLsn
kept_fault BadKey = Some BadKey
kept_fault BadValue = Some BadValue
kept_fault BadPrev = Some BadPrev
kept_fault OldTransaction = Some OldTransaction
kept_fault WrongState = Some WrongState
kept_fault WrongUndoNext = Some WrongUndoNext
kept_fault WrongCompensation = Some WrongCompensation
kept_fault (RecordHeld by) = Some (RecordHeld by)
kept_fault BeforeImage = Some BeforeImage
kept_fault TooManyTransactions = Some TooManyTransactions
kept_fault BadCheckpoint = Some BadCheckpoint
kept_fault Recovering = Some Recovering
kept_fault Sealed = Some Sealed
kept_fault LogBehind = Some LogBehind
kept_fault NotDrained = Some NotDrained
kept_fault CkptBusy = Some CkptBusy
kept_fault PoolFull = Some PoolFull
kept_fault PageLent = Some PageLent
kept_fault Stranger = Some Stranger
kept_fault NothingToDo = Some NothingToDo
kept_fault LogFull = None
kept_fault Device = Some Device
kept_fault Stopped = Some Stopped
kept_fault Memory = None
kept_fault (BadPage page) = Some (BadPage page)
kept_fault BadControl = Some BadControl
kept_fault Warming = Some Warming
kept_fault Backlog = Some Backlog
kept_fault BadConfig = Some BadConfig
kept_fault NotSealed = Some NotSealed
kept_fault BadSlot = Some BadSlot
kept_fault NumbersSpent = Some NumbersSpent
kept_fault NotPrimary = Some NotPrimary
kept_fault NotInDoubt = Some NotInDoubt
kept_fault (Diverged seal) = Some (Diverged seal)
kept_fault (OtherEpoch epoch) = Some (OtherEpoch epoch)
kept_fault EpochsSpent = Some EpochsSpent

-- whole records in front of a fault are held, and no rest is kept
pub record FeedsFront (old : Machine) (piece : List ℕ) (refusal : FeedFault)
    (new : Machine) : Type 0 where
  pub records : List Record
  pub rest : List ℕ
  pub split : Splits old.held (old.partial ++ piece) records rest
  pub cause : IsCause (grown old.held records) rest refusal.fault
  pub after : new ≡ record old {
    held = grown old.held records;
    partial = [];
    refused = kept_fault refusal.fault;
  }
  -- the piece's bytes up to the end of the last record held
  pub taken : refusal.taken ≡ length (spellings records) - length old.partial
  pub count : refusal.records ≡ length records

-- a piece is taken, as far as it can be
abbrev pub TakesPiece : Machine → List ℕ → Result Fed FeedFault → Machine → Type 0
TakesPiece old piece (Ok fed) new = FeedsAll old piece fed new
TakesPiece old piece (Err refusal) new = FeedsFront old piece refusal new

-- a refusal that takes nothing
abbrev pub refused_whole : Fault → FeedFault
refused_whole fault = record { taken = 0; records = 0; fault = fault }

-- A feed that is refused before it begins takes nothing and changes nothing; any other one takes
-- the piece.
abbrev pub Feeds : Machine → List ℕ → Option Fault → Result Fed FeedFault → Machine → Type 0
Feeds old piece refusal result new =
    MatchOption refusal (TakesPiece old piece result new)
    (λ fault. (result ≡ Err (refused_whole fault)) × (new ≡ old))
