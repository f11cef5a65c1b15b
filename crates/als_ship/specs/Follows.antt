-- What frames make of a standby that nobody else drives.
use Rattle.std.specs.Prelude.{◌≡◌, ◌≢◌, ◌≤◌, ◌<◌, ◌+◌, ◌-◌, ◌⊎◌, ℕ, List, [], ◌∷◌, ◌++◌, Contains, length, drop, Result, Ok, Err}
use Rattle.als_record.specs.declared.lsn.Lsn.{Lsn}
use Rattle.als_record.specs.declared.record.Record.{Record}
use Rattle.als_record.specs.LogText.{log_text, end_of}
use Rattle.als_epochs.specs.Histories.{GoesOn}
use Rattle.als_ckpt.specs.declared.control_state.ControlState.{ControlState}
use Rattle.als_ckpt.specs.Control.{Continues}
use Rattle.als_store.specs.Stored.{newest}
use Rattle.als_store.specs.Takeover.{history_of}
use Rattle.als_engine.specs.declared.fault.Fault.{Fault as EngineFault}
use Rattle.als_engine.specs.declared.fed.Fed.{Fed}
use Rattle.als_engine.specs.declared.fed.FeedFault.{FeedFault}
use Rattle.als_engine.specs.Machine.{Machine, IsRunning, IsStopped}
use Rattle.als_engine.specs.Refusals.{feed_refusal}
use Rattle.als_engine.specs.Feeds.{Feeds}
use Rattle.als_engine.specs.Events.{Resyncs, ControlSyncs}
use Rattle.als_engine.specs.Takeover.{Adopts}
use Rattle.als_wire.specs.declared.frame.Frame.{Frame}
use Rattle.als_wire.specs.declared.frame.Frame.TheVariants.{Data, Acknowledged, Resume, Epochs}
use Rattle.als_wire.specs.Frames.{IsHead}
use Rattle.als_ship.specs.declared.fault.Fault.{Fault}
use Rattle.als_ship.specs.declared.fault.Fault.TheVariants.{BadHeader, Memory, Gap, BadFrame, Diverged, Cut, Stream, OtherEpoch, Refused}
use Rattle.als_ship.specs.Wire.{bytes_at}

-- the bytes that a standby holds of the log text of its epoch, those of a record that is not whole yet too
abbrev pub held_text : Machine → List ℕ
held_text m = log_text m.held.pages m.held.log ++ m.partial

-- the offset of the next byte that it wants
abbrev pub position : Machine → ℕ
position m = end_of m.held.log + length m.partial

-- its epoch: how many takeovers were before it
abbrev pub epoch_of : Machine → ℕ
epoch_of m = length (history_of m.held)

-- the text begins with these bytes
abbrev pub IsFront : List ℕ → List ℕ → Type 0
IsFront front text = (rest : List ℕ) × (text ≡ front ++ rest)

-- A standby's history is a front of the seals of all takeovers, and its log a front of the text of its epoch. So are its log and the
-- bytes of its partial record, until it stops: then it takes no more of them.
pub record HoldsFront (texts : ℕ → List ℕ) (seals : List ℕ) (m : Machine) : Type 0 where
  pub history : GoesOn (history_of m.held) seals
  pub log : IsFront (log_text m.held.pages m.held.log) (texts (epoch_of m))
  pub partial : IsRunning m → IsFront (held_text m) (texts (epoch_of m))

-- a frame that tells the truth of the texts of all epochs: its bytes stand in the text of its epoch at its offset; its history is a
-- front of the seals of all takeovers
abbrev pub IsTrueFrame : (ℕ → List ℕ) → List ℕ → Frame → Type 0
IsTrueFrame texts seals (Data epoch offset bytes) = bytes_at (texts epoch) offset (length bytes) ≡ bytes
IsTrueFrame texts seals (Acknowledged lsn) = Unit {0}
IsTrueFrame texts seals (Resume from header history) = Unit {0}
IsTrueFrame texts seals (Epochs history) = GoesOn history seals

-- resync was called
abbrev pub WasResynced : Machine → Machine → Type 0
WasResynced old new = (answer : Result (Unit {0}) EngineFault) × Resyncs old answer new

-- one feed
abbrev pub FeedsOnce : Machine → List ℕ → Result Fed FeedFault → Machine → Type 0
FeedsOnce old piece result new = Feeds old piece (feed_refusal old) result new

-- what is left of a frame's bytes is fed, by one feed; nothing is, where none is left
abbrev pub FeedsRest : Machine → List ℕ → Result (Unit {0}) EngineFault → Machine → Type 0
FeedsRest old [] result new = (result ≡ Ok tt) × (new ≡ old)
FeedsRest old (b ∷ rest) (Ok done) new = (fed : Fed) × FeedsOnce old (b ∷ rest) (Ok fed) new
FeedsRest old (b ∷ rest) (Err fault) new = (refusal : FeedFault) × (refusal.fault ≡ fault) × FeedsOnce old (b ∷ rest) (Err refusal) new

-- a Data frame that may come, of the standby's own epoch
abbrev pub IsOwnHead : Machine → ℕ → ℕ → ℕ → Type 0
IsOwnHead old epoch offset len = IsHead epoch offset len × (epoch ≡ epoch_of old)

-- What a Data frame makes of a standby, and what is answered: its bytes below the position are dropped without a look, and the rest
-- is fed. A frame that may not come is followed by a resync; one of another epoch, and then one behind a gap, change nothing.
abbrev pub Takes : Machine → ℕ → ℕ → List ℕ → Result Lsn Fault → Machine → Type 0
Takes old epoch offset bytes (Ok lsn) new =
    IsOwnHead old epoch offset (length bytes) × (offset ≤ position old) × (lsn.0 ≡ position new)
    × FeedsRest old (drop (position old - offset) bytes) (Ok tt) new
Takes old epoch offset bytes (Err (Refused fault)) new =
    IsOwnHead old epoch offset (length bytes) × (offset ≤ position old) × FeedsRest old (drop (position old - offset) bytes) (Err fault) new
Takes old epoch offset bytes (Err BadFrame) new = (IsHead epoch offset (length bytes) → ⊥) × WasResynced old new
Takes old epoch offset bytes (Err (OtherEpoch other)) new = IsHead epoch offset (length bytes) × (epoch ≢ epoch_of old) × (other ≡ epoch) × (new ≡ old)
Takes old epoch offset bytes (Err Gap) new = IsOwnHead old epoch offset (length bytes) × (position old < offset) × (new ≡ old)
Takes old epoch offset bytes (Err BadHeader) new = ⊥
Takes old epoch offset bytes (Err Memory) new = ⊥
Takes old epoch offset bytes (Err (Diverged seal)) new = ⊥
Takes old epoch offset bytes (Err Cut) new = ⊥
Takes old epoch offset bytes (Err Stream) new = ⊥

-- What is said against a Data frame, whoever drives the standby: it may not come, or it may, and is of another epoch or behind a gap, or
-- an event is refused.
abbrev pub IsSaidOfData : ℕ → ℕ → ℕ → Fault → Type 0
IsSaidOfData epoch offset len BadFrame = IsHead epoch offset len → ⊥
IsSaidOfData epoch offset len (OtherEpoch other) = IsHead epoch offset len × (other ≡ epoch)
IsSaidOfData epoch offset len Gap = IsHead epoch offset len
IsSaidOfData epoch offset len (Refused cause) = IsHead epoch offset len
IsSaidOfData epoch offset len BadHeader = ⊥
IsSaidOfData epoch offset len Memory = ⊥
IsSaidOfData epoch offset len (Diverged seal) = ⊥
IsSaidOfData epoch offset len Cut = ⊥
IsSaidOfData epoch offset len Stream = ⊥

-- an offered history was adopted, and the control block synced
abbrev pub AdoptsSynced : Machine → List ℕ → Machine → Type 0
AdoptsSynced old history new = (adopted : Machine) × (mark : Lsn) × Adopts old history (Ok tt) adopted × ControlSyncs adopted (Ok mark) new

-- it was not: the adoption was refused, or the sync behind it
abbrev pub NotAdopted : Machine → List ℕ → EngineFault → Machine → Type 0
NotAdopted old history fault new =
    Adopts old history (Err fault) new ⊎ ((adopted : Machine) × Adopts old history (Ok tt) adopted × ControlSyncs adopted (Err fault) new)

-- What an Epochs frame makes of a standby, and what is answered: where the history is its own, nothing is done; else it is adopted,
-- and the control block synced, or one of these is refused.
abbrev pub TakesUp : Machine → List ℕ → Result Lsn Fault → Machine → Type 0
TakesUp old history (Ok lsn) new =
    (lsn.0 ≡ position new) × (((history ≡ history_of old.held) × (new ≡ old)) ⊎ ((history ≢ history_of old.held) × AdoptsSynced old history new))
TakesUp old history (Err (Refused fault)) new = (history ≢ history_of old.held) × NotAdopted old history fault new
TakesUp old history (Err BadHeader) new = ⊥
TakesUp old history (Err Memory) new = ⊥
TakesUp old history (Err Gap) new = ⊥
TakesUp old history (Err BadFrame) new = ⊥
TakesUp old history (Err (Diverged seal)) new = ⊥
TakesUp old history (Err Cut) new = ⊥
TakesUp old history (Err Stream) new = ⊥
TakesUp old history (Err (OtherEpoch epoch)) new = ⊥

-- what any frame makes of it: a follower takes Data and Epochs frames alone
abbrev pub Handles : Machine → Frame → Result Lsn Fault → Machine → Type 0
Handles old (Data epoch offset bytes) result new = Takes old epoch offset bytes result new
Handles old (Acknowledged lsn) result new = (result ≡ Err BadFrame) × WasResynced old new
Handles old (Resume from header history) result new = (result ≡ Err BadFrame) × WasResynced old new
Handles old (Epochs history) result new = TakesUp old history result new

-- an event was refused
abbrev pub IsOfEvent : Fault → Type 0
IsOfEvent fault = (cause : EngineFault) × (fault ≡ Refused cause)

-- what is said against any frame, whoever drives the standby
abbrev pub IsSaidOf : Frame → Fault → Type 0
IsSaidOf (Data epoch offset bytes) fault = IsSaidOfData epoch offset (length bytes) fault
IsSaidOf (Acknowledged lsn) fault = fault ≡ BadFrame
IsSaidOf (Resume from header history) fault = fault ≡ BadFrame
IsSaidOf (Epochs history) fault = IsOfEvent fault

-- the log, the partial record and the history are as they were, and a standby that has stopped still has
pub record SameText (old new : Machine) : Type 0 where
  pub pages : new.held.pages ≡ old.held.pages
  pub log : new.held.log ≡ old.held.log
  pub partial : new.partial ≡ old.partial
  pub history : history_of new.held ≡ history_of old.held
  pub stopped : IsStopped old → IsStopped new

-- A crash leaves one of the control states that it may leave, the front of the log that ends at its mark, and no partial record. The
-- newest state continues that one, as it does of each engine.
pub record Crashes (old new : Machine) : Type 0 where
  pub state : ControlState
  pub among : Contains (old.held.control ∷ old.held.since) state
  pub continued : Continues state (newest old.held)
  pub newest : newest new.held ≡ state
  pub pages : new.held.pages ≡ old.held.pages
  pub lost : List Record
  pub log : old.held.log ≡ new.held.log ++ lost
  pub ends : end_of new.held.log ≡ state.mark.0
  pub partial : new.partial ≡ []

-- what the wire and the world may do to a standby
pub data Happening : Type 0 where
  -- a frame comes
  Comes : (frame : Frame) → Happening
  -- an event that leaves the text and the history: the log is forced, pages are redone and written
  Works : Happening
  Resynced : Happening
  Crashed : Happening

abbrev pub Happens : Machine → Happening → Machine → Type 0
Happens old (Comes frame) new = (result : Result Lsn Fault) × Handles old frame result new
Happens old Works new = SameText old new
Happens old Resynced new = WasResynced old new
Happens old Crashed new = Crashes old new

-- a schedule: any frames of any epochs, any number of times, in any order, with crashes between
abbrev pub Schedule : Machine → List Happening → Machine → Type 0
Schedule old [] new = new ≡ old
Schedule old (h ∷ hs) new = (mid : Machine) × Happens old h mid × Schedule mid hs new

-- each frame of it is true
abbrev pub AreTrue : (ℕ → List ℕ) → List ℕ → List Happening → Type 0
AreTrue texts seals [] = Unit {0}
AreTrue texts seals (Comes frame ∷ hs) = IsTrueFrame texts seals frame × AreTrue texts seals hs
AreTrue texts seals (Works ∷ hs) = AreTrue texts seals hs
AreTrue texts seals (Resynced ∷ hs) = AreTrue texts seals hs
AreTrue texts seals (Crashed ∷ hs) = AreTrue texts seals hs
