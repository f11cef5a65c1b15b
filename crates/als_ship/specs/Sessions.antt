-- Sessions of a follower.
use Rattle.std.specs.Prelude.{◌≡◌, ◌⊎◌, ℕ, Bool, true, List, [], ◌∷◌, ◌++◌, length, Option, Ok, Err}
use Rattle.std.specs.List.{flat_map, AllByRecursion}
use Rattle.std.specs.Io.KnownBytes.{Consumes, Appends}
use Rattle.als_record.specs.declared.lsn.Lsn.{Lsn}
use Rattle.als_record.specs.declared.header.LogHeader.{LogHeader}
use Rattle.als_record.specs.LogText.{end_of}
use Rattle.als_epochs.specs.Histories.{IsHistory}
use Rattle.als_store.specs.Takeover.{history_of}
use Rattle.als_engine.specs.declared.fault.Fault.{Fault as EngineFault}
use Rattle.als_engine.specs.Machine.{Machine}
use Rattle.als_wire.specs.declared.fault.Fault.TheVariants as wire
use Rattle.als_wire.specs.declared.frame.Frame.{Frame}
use Rattle.als_wire.specs.declared.tag.Tag.TheVariants as tag
use Rattle.als_wire.specs.Frames.{frame_bytes, epochs_bytes, acknowledged_bytes, answers_bytes, resume_bytes, is_last, IsFrame}
use Rattle.als_wire.specs.Reading.{FailsToRead}
use Rattle.als_wire.specs.Sending.{Puts}
use Rattle.als_ship.specs.declared.fault.Fault.{Fault}
use Rattle.als_ship.specs.declared.fault.Fault.TheVariants.{BadHeader, Memory, Gap, BadFrame, Diverged, Cut, Stream, OtherEpoch, Refused}
use Rattle.als_ship.specs.Epochs.{AreEpochs}
use Rattle.als_ship.specs.Follows.{HoldsFront, IsTrueFrame, IsSaidOf, Handles, TakesUp, SameText, WasResynced}
use Rattle.als_ship.specs.Forcing.{Forces, FailsToForce}

-- the bytes of frames, one behind the other
abbrev pub frames_bytes : List Frame → List ℕ
frames_bytes frames = flat_map frame_bytes frames

-- if frames are true of the texts of all epochs, and the standby's history and log were fronts of theirs, they still are
abbrev pub KeepsOver : List Frame → Machine → Machine → Type 0
KeepsOver frames old new =
    (texts : ℕ → List ℕ) (seals : List ℕ) → AreEpochs texts seals → AllByRecursion (IsTrueFrame texts seals) frames → HoldsFront texts seals old
    → HoldsFront texts seals new

-- frames were read, over which this holds
abbrev pub KeepsFront : Type 0 → Option (List ℕ) → Option (List ℕ) → Machine → Machine → Type 0
KeepsFront alone before behind old new = (frames : List Frame) × Consumes before behind (frames_bytes frames) × (alone → KeepsOver frames old new)

-- the frame was taken and the log forced, whose acknowledged LSN is then the answer; what else was done left the text
pub record Turns (old : Machine) (frame : Frame) (answer : Lsn) (new : Machine) : Type 0 where
  pub position : Lsn
  pub taken : Machine
  pub forced : Machine
  pub handles : Handles old frame (Ok position) taken
  pub forces : Forces taken answer forced
  pub keeps : SameText forced new

-- one frame after another
abbrev pub Session : Machine → List Frame → List Lsn → Machine → Type 0
Session old [] [] new = new ≡ old
Session old (frame ∷ frames) (answer ∷ answers) new = (mid : Machine) × Turns old frame answer mid × Session mid frames answers new
Session old [] (answer ∷ answers) new = ⊥
Session old (frame ∷ frames) [] new = ⊥

-- a frame was read and its answer written
pub record TakesOne (alone : Type 0) (last : Bool) (old new : Machine) (before behind written more : Option (List ℕ)) : Type 0 where
  pub frame : Frame
  pub answer : Lsn
  pub read : Consumes before behind (frame_bytes frame)
  pub told : Appends written more (acknowledged_bytes answer.0)
  pub is_last : last ≡ is_last frame
  pub turns : alone → Turns old frame answer new

-- it asked from the end of the held log on, with its own history
pub record Asks (alone : Type 0) (old : Machine) (from : Lsn) (seals : List ℕ) : Type 0 where
  pub end : alone → from.0 ≡ end_of old.held.log
  pub own : alone → seals ≡ history_of old.held

-- the source's history was read and taken up, before any other frame
pub record Joins (alone : Type 0) (old new : Machine) (before behind : Option (List ℕ)) : Type 0 where
  pub offered : List ℕ
  pub history : IsHistory offered
  pub read : Consumes before behind (epochs_bytes offered)
  pub taken : alone → (position : Lsn) × TakesUp old offered (Ok position) new

-- A whole session: it asks, takes up the source's history, and answers each frame, up to one with no bytes. That one is answered too:
-- there are as many answers as frames.
pub record Follows (alone : Type 0) (header : LogHeader) (old new : Machine) (before behind written more : Option (List ℕ)) : Type 0 where
  pub from : Lsn
  pub seals : List ℕ
  pub asks : Asks alone old from seals
  pub joined : Machine
  pub between : Option (List ℕ)
  pub joins : Joins alone old joined before between
  pub frames : List Frame
  pub last : Frame
  pub answers : List Lsn
  pub ends : is_last last ≡ true
  pub each : length answers ≡ length (frames ++ last ∷ [])
  pub read : Consumes between behind (frames_bytes (frames ++ last ∷ []))
  pub told : Appends written more (resume_bytes from.0 header.pages seals ++ answers_bytes answers)
  pub session : alone → Session joined (frames ++ last ∷ []) answers new

-- the frame was taken, and the log perhaps forced
abbrev pub TakesUnanswered : Machine → Frame → Machine → Type 0
TakesUnanswered old frame new = (lsn : Lsn) × (mid : Machine) × Handles old frame (Ok lsn) mid × SameText mid new

-- the frame was refused, or the force that followed it
abbrev pub TakesRefused : Machine → Frame → Fault → Machine → Type 0
TakesRefused old frame fault new =
    Handles old frame (Err fault) new ⊎ ((lsn : Lsn) × (mid : Machine) × Handles old frame (Ok lsn) mid × SameText mid new × FailsToForce fault new)

-- the frame was taken and its answer told, and then the upkeep was refused
abbrev pub KeepsRefused : (EngineFault → Machine → Type 0) → Machine → Frame → EngineFault → Machine → Type 0
KeepsRefused refuses old frame cause new = (answer : Lsn) × Turns old frame answer new × refuses cause new

-- a whole frame that may go over a stream was read, and this came of it
pub record AtFrame (alone : Type 0) (before behind : Option (List ℕ)) (comes : Frame → Type 0) : Type 0 where
  pub frame : Frame
  pub is : IsFrame frame
  pub read : Consumes before behind (frame_bytes frame)
  pub came : alone → comes frame

-- a whole frame was read, against which this is said
pub record RefusesFrame (alone : Type 0) (old : Machine) (fault : Fault) (new : Machine) (before behind : Option (List ℕ)) : Type 0 where
  pub frame : Frame
  pub is : IsFrame frame
  pub read : Consumes before behind (frame_bytes frame)
  pub said : IsSaidOf frame fault
  pub handles : alone → Handles old frame (Err fault) new

-- Why a session ended at a frame, what was read of it, and what that made of the standby: nothing where the frame is of another epoch
-- or behind a gap, and where no frame was read.
abbrev pub Stops : Type 0 → (EngineFault → Machine → Type 0) → Machine → Fault → Machine → Option (List ℕ) → Option (List ℕ) → Type 0
Stops alone refuses old BadHeader new before behind = ⊥
Stops alone refuses old Memory new before behind = FailsToRead tag.Data wire.Memory before behind × (alone → new ≡ old)
Stops alone refuses old Gap new before behind = RefusesFrame alone old Gap new before behind
Stops alone refuses old BadFrame new before behind = FailsToRead tag.Data wire.BadFrame before behind × (alone → new ≡ old)
Stops alone refuses old (Diverged seal) new before behind = ⊥
Stops alone refuses old Cut new before behind = alone → new ≡ old
Stops alone refuses old Stream new before behind = (alone → new ≡ old) ⊎ AtFrame alone before behind (λ frame. TakesUnanswered old frame new)
Stops alone refuses old (OtherEpoch epoch) new before behind = RefusesFrame alone old (OtherEpoch epoch) new before behind
Stops alone refuses old (Refused cause) new before behind =
    AtFrame alone before behind (λ frame. TakesRefused old frame (Refused cause) new ⊎ KeepsRefused refuses old frame cause new)

-- What was told of the frame at which a session ended: nothing, or a front of its answer, where the frame was read and taken and the log
-- forced, which gave that answer.
abbrev pub TellsPart : Type 0 → Machine → Machine → Option (List ℕ) → Option (List ℕ) → Option (List ℕ) → Option (List ℕ) → Type 0
TellsPart alone old new before behind written more =
    Appends written more [] ⊎ ((answer : Lsn) × Puts (acknowledged_bytes answer.0) written more × AtFrame alone before behind (λ frame. Turns old frame answer new))

-- then resync is called, after a fault of the stream alone
abbrev pub GivesUp : Machine → Fault → Machine → Type 0
GivesUp old BadFrame new = WasResynced old new
GivesUp old Cut new = WasResynced old new
GivesUp old Stream new = WasResynced old new
GivesUp old BadHeader new = new ≡ old
GivesUp old Memory new = new ≡ old
GivesUp old Gap new = new ≡ old
GivesUp old (Diverged seal) new = new ≡ old
GivesUp old (OtherEpoch epoch) new = new ≡ old
GivesUp old (Refused cause) new = new ≡ old

-- a session that did not get to ask: the writer failed, and a front of the Resume frame was written
pub record AsksInVain (alone : Type 0) (header : LogHeader) (fault : Fault) (old new : Machine) (written more : Option (List ℕ)) : Type 0 where
  pub from : Lsn
  pub seals : List ℕ
  pub asks : Asks alone old from seals
  pub failed : fault ≡ Stream
  pub told : Puts (resume_bytes from.0 header.pages seals) written more
  pub same : alone → new ≡ old

-- Why the source's history was not taken up, and what was read of it: no Epochs frame, which changes nothing; or its history is refused,
-- or an event that takes it up.
abbrev pub FailsToJoin : Type 0 → Machine → Fault → Machine → Option (List ℕ) → Option (List ℕ) → Type 0
FailsToJoin alone old BadFrame new before behind = FailsToRead tag.Epochs wire.BadFrame before behind × (alone → new ≡ old)
FailsToJoin alone old Cut new before behind = alone → new ≡ old
FailsToJoin alone old Stream new before behind = alone → new ≡ old
FailsToJoin alone old (Refused cause) new before behind =
    (offered : List ℕ) × IsHistory offered × Consumes before behind (epochs_bytes offered) × (alone → TakesUp old offered (Err (Refused cause)) new)
FailsToJoin alone old BadHeader new before behind = ⊥
FailsToJoin alone old Memory new before behind = ⊥
FailsToJoin alone old Gap new before behind = ⊥
FailsToJoin alone old (Diverged seal) new before behind = ⊥
FailsToJoin alone old (OtherEpoch epoch) new before behind = ⊥

-- A session that asked, and ended before any frame of log bytes. Nothing but the Resume frame was written.
pub record JoinsInVain (alone : Type 0) (header : LogHeader) (fault : Fault) (old new : Machine) (before written more : Option (List ℕ)) : Type 0 where
  pub from : Lsn
  pub seals : List ℕ
  pub asks : Asks alone old from seals
  pub told : Appends written more (resume_bytes from.0 header.pages seals)
  pub behind : Option (List ℕ)
  pub fails : FailsToJoin alone old fault new before behind

-- A session that ended early: it asked and took up the source's history, frames were taken and each of them was answered, in order, and
-- then one was not, of whose answer a front may have been written. Nothing else was.
pub record StopsEarly (alone : Type 0) (refuses : EngineFault → Machine → Type 0) (header : LogHeader) (fault : Fault) (old new : Machine) (before written more : Option (List ℕ)) : Type 0 where
  pub from : Lsn
  pub seals : List ℕ
  pub asks : Asks alone old from seals
  pub joined : Machine
  pub between : Option (List ℕ)
  pub joins : Joins alone old joined before between
  pub frames : List Frame
  pub answers : List Lsn
  pub each : length answers ≡ length frames
  pub behind : Option (List ℕ)
  pub read : Consumes between behind (frames_bytes frames)
  pub then : Option (List ℕ)
  pub told : Appends written then (resume_bytes from.0 header.pages seals ++ answers_bytes answers)
  pub taken : Machine
  pub session : alone → Session joined frames answers taken
  pub rest : Option (List ℕ)
  pub stops : Stops alone refuses taken fault new behind rest
  pub part : TellsPart alone taken new behind rest then more

-- a session that ended before the follower gave up
abbrev pub EndsAt : Type 0 → (EngineFault → Machine → Type 0) → LogHeader → Fault → Machine → Machine → Option (List ℕ) → Option (List ℕ) → Option (List ℕ) → Type 0
EndsAt alone refuses header fault old new before written more =
    AsksInVain alone header fault old new written more ⊎ (JoinsInVain alone header fault old new before written more ⊎ StopsEarly alone refuses header fault old new before written more)

-- and then the follower gave up
abbrev pub EndsEarly : Type 0 → (EngineFault → Machine → Type 0) → LogHeader → Fault → Machine → Machine → Option (List ℕ) → Option (List ℕ) → Option (List ℕ) → Type 0
EndsEarly alone refuses header fault old new before written more =
    (stopped : Machine) × EndsAt alone refuses header fault old stopped before written more × (alone → GivesUp stopped fault new)
