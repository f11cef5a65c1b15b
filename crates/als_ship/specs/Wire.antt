-- What goes over the wire, as a list of frames of a text in an epoch.
use Rattle.std.specs.Prelude.{◌≡◌, ◌≢◌, ◌≤◌, ◌<◌, ◌+◌, ◌-◌, ◌^◌, ◌⊎◌, ℕ, suc, List, [], ◌∷◌, ◌++◌, length, take, drop, Option, Some, None, Ok, Err}
use Rattle.std.specs.List.{AllByRecursion}
use Rattle.std.specs.Io.KnownBytes.{Consumes, Appends}
use Rattle.als_record.specs.declared.header.LogHeader.{LogHeader}
use Rattle.als_record.specs.declared.lsn.Lsn.{Lsn}
use Rattle.als_epochs.specs.declared.fault.Fault.TheVariants as judged
use Rattle.als_epochs.specs.declared.step.Step.{Step}
use Rattle.als_epochs.specs.Histories.{IsHistory}
use Rattle.als_epochs.specs.Judging.{Judges}
use Rattle.als_wire.specs.declared.tag.Tag.TheVariants as tag
use Rattle.als_wire.specs.declared.fault.Fault.TheVariants as wire
use Rattle.als_wire.specs.Frames.{data_bytes, epochs_bytes, resume_bytes, answers_bytes}
use Rattle.als_wire.specs.Reading.{FailsToRead, IsHeader}
use Rattle.als_wire.specs.Sending.{Puts}
use Rattle.als_ship.specs.declared.fault.Fault.{Fault}
use Rattle.als_ship.specs.declared.fault.Fault.TheVariants.{BadHeader, Memory, Gap, BadFrame, Diverged, Cut, Stream, OtherEpoch, Refused}

-- so many bytes of a text that stand at an offset
abbrev pub bytes_at : List ℕ → ℕ → ℕ → List ℕ
bytes_at text offset len = take len (drop offset text)

-- the bytes of Data frames of an epoch with these pieces, one behind the other, the first at this offset
abbrev pub pieces_bytes : ℕ → ℕ → List (List ℕ) → List ℕ
pieces_bytes epoch at [] = []
pieces_bytes epoch at (piece ∷ pieces) = data_bytes epoch at piece ++ pieces_bytes epoch (at + length piece) pieces

-- the pieces follow one another in the text from this offset to that one, each of 1 to 65,536 bytes
abbrev pub ArePieces : List ℕ → ℕ → List (List ℕ) → ℕ → Type 0
ArePieces text at [] end = at ≡ end
ArePieces text at (piece ∷ pieces) end =
    (0 < length piece) × (length piece ≤ 65536) × (piece ≡ bytes_at text at (length piece)) × ArePieces text (at + length piece) pieces end

-- pieces joined
abbrev pub joined : List (List ℕ) → List ℕ
joined [] = []
joined (piece ∷ pieces) = piece ++ joined pieces

-- the LSN of the last answer, if there was one
abbrev pub last_answer : List Lsn → Option Lsn
last_answer [] = None
last_answer (lsn ∷ []) = Some lsn
last_answer (lsn ∷ next ∷ rest) = last_answer (next ∷ rest)

-- each of these LSNs is spelled in eight bytes
abbrev pub AreLsns : List Lsn → Type 0
AreLsns answers = AllByRecursion (λ lsn. lsn.0 < 2 ^ 64) answers

-- All of a text from an offset on was sent, as Data frames of an epoch, an empty one last. An answer to each of them was read, and the
-- LSN of the last one is kept.
pub record Pours (text : List ℕ) (epoch from : ℕ) (asked behind old new : Option (List ℕ)) (kept : Option Lsn) : Type 0 where
  pub pieces : List (List ℕ)
  pub answers : List Lsn
  pub sent : Option (List ℕ)
  pub are : ArePieces text from pieces (length text)
  pub told : Appends old sent (pieces_bytes epoch from pieces)
  pub closed : Appends sent new (data_bytes epoch (length text) [])
  pub each : length answers ≡ suc (length pieces)
  pub fit : AreLsns answers
  pub heard : Consumes asked behind (answers_bytes answers)
  pub last : kept ≡ last_answer answers

-- The same of a session that ended early: pieces were sent, each of which was answered before the next one was sent, and then a front
-- of one frame more, or all of it.
pub record PoursPart (text : List ℕ) (epoch from : ℕ) (asked old new : Option (List ℕ)) (kept : Option Lsn) : Type 0 where
  pub at : ℕ
  pub len : ℕ
  pub pieces : List (List ℕ)
  pub answers : List Lsn
  pub behind : Option (List ℕ)
  pub sent : Option (List ℕ)
  pub are : ArePieces text from pieces at
  pub told : Appends old sent (pieces_bytes epoch from pieces)
  pub more : Puts (data_bytes epoch at (bytes_at text at len)) sent new
  pub each : length answers ≡ length pieces
  pub fit : AreLsns answers
  pub heard : Consumes asked behind (answers_bytes answers)
  pub last : kept ≡ last_answer answers

-- The follower asked: it goes on from here, and this is its history. It was told the own history. The own one goes on from its own
-- one, if it is not the same, and it goes on at or below the first seal that it lacks, and at or below the end of the text.
pub record IsMet (text own : List ℕ) (from pages : ℕ) (asked between old then : Option (List ℕ)) : Type 0 where
  pub theirs : List ℕ
  pub history : IsHistory theirs
  pub step : Step
  pub judged : Judges theirs own from (Ok step)
  pub fits : from < 2 ^ 64
  pub range : IsHeader (record { pages = pages })
  pub within : from ≤ length text
  pub heard : Consumes asked between (resume_bytes from pages theirs)
  pub told : Appends old then (epochs_bytes own)

-- A session has told the own history, and sent all of the text from where the follower goes on: n log bytes. The follower has the same
-- header.
pub record Ships (text own : List ℕ) (header : LogHeader) (asked behind old new : Option (List ℕ)) (n : ℕ) (kept : Option Lsn) : Type 0 where
  pub from : ℕ
  pub between : Option (List ℕ)
  pub then : Option (List ℕ)
  pub met : IsMet text own from header.pages asked between old then
  pub pours : Pours text (length own) from between behind then new kept
  pub count : n ≡ length text - from

-- a session that ended early once the follower was met
pub record ShipsPart (text own : List ℕ) (asked old new : Option (List ℕ)) (kept : Option Lsn) : Type 0 where
  pub from : ℕ
  pub pages : ℕ
  pub between : Option (List ℕ)
  pub then : Option (List ℕ)
  pub met : IsMet text own from pages asked between old then
  pub part : PoursPart text (length own) from between then new kept

-- what was sent in a session that ended early, and what was heard: nothing but the own history or a front of it, and no answer; or it
-- is one in which the follower was met
abbrev pub EndsServing : List ℕ → List ℕ → Option (List ℕ) → Option (List ℕ) → Option (List ℕ) → Option Lsn → Type 0
EndsServing text own asked old new kept = ((kept ≡ None) × Puts (epochs_bytes own) old new) ⊎ ShipsPart text own asked old new kept

-- the own history was told, and then whole Data frames of its epoch, with bytes of the text that follow one another, and then a front
-- of one more
pub record SendsPieces (text own : List ℕ) (old new : Option (List ℕ)) : Type 0 where
  pub from : ℕ
  pub at : ℕ
  pub len : ℕ
  pub pieces : List (List ℕ)
  pub are : ArePieces text from pieces at
  pub then : Option (List ℕ)
  pub told : Appends old then (epochs_bytes own)
  pub sent : Option (List ℕ)
  pub whole : Appends then sent (pieces_bytes (length own) from pieces)
  pub more : Puts (data_bytes (length own) at (bytes_at text at len)) sent new

-- what a shipper sends are true frames of its source: the own history or a front of it, or that and pieces
abbrev pub SendsTrue : List ℕ → List ℕ → Option (List ℕ) → Option (List ℕ) → Type 0
SendsTrue text own old new = Puts (epochs_bytes own) old new ⊎ SendsPieces text own old new

-- ---- refusals

-- a whole Resume frame with another header
abbrev pub HasOtherHeader : LogHeader → Option (List ℕ) → Option (List ℕ) → Type 0
HasOtherHeader header old new =
    (from : ℕ) × (theirs : LogHeader) × (seals : List ℕ) × IsHeader theirs × (theirs.pages ≢ header.pages)
    × Consumes old new (resume_bytes from theirs.pages seals)

-- a whole Resume frame of a follower whose history is no front of the own one, which has this epoch
abbrev pub HasOtherEpoch : LogHeader → List ℕ → ℕ → Option (List ℕ) → Option (List ℕ) → Type 0
HasOtherEpoch header own epoch old new =
    (from : ℕ) × (seals : List ℕ) × IsHistory seals × Judges seals own from (Err (judged.OtherEpoch epoch))
    × Consumes old new (resume_bytes from header.pages seals)

-- a whole Resume frame that goes on past this seal, the first of the own ones that the follower lacks
abbrev pub HasDiverged : LogHeader → List ℕ → Lsn → Option (List ℕ) → Option (List ℕ) → Type 0
HasDiverged header own seal old new =
    (from : ℕ) × (seals : List ℕ) × IsHistory seals × Judges seals own from (Err (judged.Diverged seal))
    × Consumes old new (resume_bytes from header.pages seals)

-- a whole Resume frame of a follower whose history is not refused, and that goes on past the end
abbrev pub IsPastEnd : LogHeader → List ℕ → ℕ → Option (List ℕ) → Option (List ℕ) → Type 0
IsPastEnd header own end old new =
    (from : ℕ) × (seals : List ℕ) × IsHistory seals × (step : Step) × Judges seals own from (Ok step) × (end < from)
    × Consumes old new (resume_bytes from header.pages seals)

-- Why a follower was not asked: its header is damaged or another one, this is no Resume frame, or the stream ended or failed.
abbrev pub FailsToAsk : LogHeader → Fault → Option (List ℕ) → Option (List ℕ) → Type 0
FailsToAsk header BadHeader old new = FailsToRead tag.Resume wire.BadHeader old new ⊎ HasOtherHeader header old new
FailsToAsk header BadFrame old new = FailsToRead tag.Resume wire.BadFrame old new
FailsToAsk header Cut old new = Unit {0}
FailsToAsk header Stream old new = Unit {0}
FailsToAsk header Memory old new = ⊥
FailsToAsk header Gap old new = ⊥
FailsToAsk header (Diverged seal) old new = ⊥
FailsToAsk header (OtherEpoch epoch) old new = ⊥
FailsToAsk header (Refused cause) old new = ⊥

-- Why a follower that asked can't go on: by the judgement on the histories, or it goes on past the end.
abbrev pub IsNotAdmitted : List ℕ → List ℕ → ℕ → ℕ → Fault → Type 0
IsNotAdmitted theirs own from end (OtherEpoch epoch) = Judges theirs own from (Err (judged.OtherEpoch epoch))
IsNotAdmitted theirs own from end (Diverged seal) = Judges theirs own from (Err (judged.Diverged seal))
IsNotAdmitted theirs own from end Gap = (step : Step) × Judges theirs own from (Ok step) × (end < from)
IsNotAdmitted theirs own from end BadHeader = ⊥
IsNotAdmitted theirs own from end Memory = ⊥
IsNotAdmitted theirs own from end BadFrame = ⊥
IsNotAdmitted theirs own from end Cut = ⊥
IsNotAdmitted theirs own from end Stream = ⊥
IsNotAdmitted theirs own from end (Refused cause) = ⊥

-- answers were read, and behind them what is none
pub record HasNoAnswer (asked : Option (List ℕ)) : Type 0 where
  pub answers : List Lsn
  pub between : Option (List ℕ)
  pub behind : Option (List ℕ)
  pub heard : Consumes asked between (answers_bytes answers)
  pub fails : FailsToRead tag.Acknowledged wire.BadFrame between behind

-- Why the text was not sent to its end: a growth was refused, what should be an answer is none, or the stream or the source ended or failed.
abbrev pub FailsToPour : Fault → Option (List ℕ) → Type 0
FailsToPour Memory asked = Unit {0}
FailsToPour BadFrame asked = HasNoAnswer asked
FailsToPour Cut asked = Unit {0}
FailsToPour Stream asked = Unit {0}
FailsToPour BadHeader asked = ⊥
FailsToPour Gap asked = ⊥
FailsToPour (Diverged seal) asked = ⊥
FailsToPour (OtherEpoch epoch) asked = ⊥
FailsToPour (Refused cause) asked = ⊥

-- a whole Resume frame with this header, answers, and behind them what is no answer
pub record IsUnanswered (header : LogHeader) (asked : Option (List ℕ)) : Type 0 where
  pub from : ℕ
  pub seals : List ℕ
  pub history : IsHistory seals
  pub between : Option (List ℕ)
  pub read : Consumes asked between (resume_bytes from header.pages seals)
  pub none : HasNoAnswer between

-- Why a session was not served to its end. The first cause is found before anything is sent, the next three once the own history was
-- told, in this order. BadFrame is answered where no Resume frame came, or where what should be an answer is none. A growth may be refused, and
-- the stream or the source may fail.
abbrev pub FailsToServe : LogHeader → List ℕ → ℕ → Fault → Option (List ℕ) → Type 0
FailsToServe header own end BadHeader asked =
    (behind : Option (List ℕ)) × (FailsToRead tag.Resume wire.BadHeader asked behind ⊎ HasOtherHeader header asked behind)
FailsToServe header own end (OtherEpoch epoch) asked = (behind : Option (List ℕ)) × HasOtherEpoch header own epoch asked behind
FailsToServe header own end (Diverged seal) asked = (behind : Option (List ℕ)) × HasDiverged header own seal asked behind
FailsToServe header own end Gap asked = (behind : Option (List ℕ)) × IsPastEnd header own end asked behind
FailsToServe header own end Memory asked = Unit {0}
FailsToServe header own end BadFrame asked = ((behind : Option (List ℕ)) × FailsToRead tag.Resume wire.BadFrame asked behind) ⊎ IsUnanswered header asked
FailsToServe header own end Cut asked = Unit {0}
FailsToServe header own end Stream asked = Unit {0}
FailsToServe header own end (Refused cause) asked = ⊥
