-- A whole session, however it ended.
use Rattle.std.specs.Prelude.{◌≡◌, ◌≤◌, ◌+◌, ◌-◌, ◌⊎◌, ℕ, suc, List, [], ◌∷◌, ◌++◌, length, Option}
use Rattle.std.specs.Io.KnownBytes.{Consumes, Appends, Keeps}
use Rattle.als_record.specs.declared.lsn.Lsn.{Lsn}
use Rattle.als_wire.specs.Frames.{data_bytes, epochs_bytes, answers_bytes}
use Rattle.als_wire.specs.Sending.{Puts}
use Rattle.als_ship.specs.Wire.{AreLsns}
use Rattle.als_sending.specs.Reads.{Read}
use Rattle.als_sending.specs.Sent.{reads_bytes, Reach}
use Rattle.als_sending.specs.Meeting.{IsAdmitted}
use Rattle.als_sending.specs.Going.{numbers}

-- The Resume frame of an admitted follower was read, and behind it Acknowledged frames. Their LSNs were acknowledged, in order.
pub record HearsAnswers (pages end : ℕ) (own : List ℕ) (heard heard_now : List ℕ) (asked old : Option (List ℕ)) : Type 0 where
  pub from : ℕ
  pub between : Option (List ℕ)
  pub then : Option (List ℕ)
  pub behind : Option (List ℕ)
  pub admitted : IsAdmitted pages end own from asked between old then
  pub answers : List Lsn
  pub fit : AreLsns answers
  pub read : Consumes between behind (answers_bytes answers)
  pub kept : heard_now ≡ heard ++ numbers answers

-- What a session acknowledged: nothing; or the LSNs of the answers that were read behind the Resume frame, in order, and nothing else.
abbrev pub Hears : ℕ → ℕ → List ℕ → List ℕ → List ℕ → Option (List ℕ) → Option (List ℕ) → Type 0
Hears pages end own heard heard_now asked old = (heard_now ≡ heard) ⊎ HearsAnswers pages end own heard heard_now asked old

-- What was sent behind the own history is a front of the bytes of frames, of which no more than the window were not acknowledged; each of them was sent whole, but for the
-- last one at most.
pub record IsWithin (window : ℕ) (own heard heard_now : List ℕ) (old new : Option (List ℕ)) : Type 0 where
  pub pieces : List Read
  pub next : List Read
  pub then : Option (List ℕ)
  pub sent : Option (List ℕ)
  pub told : Appends old then (epochs_bytes own)
  pub whole : Appends then sent (reads_bytes (length own) pieces)
  pub one : length next ≤ 1
  pub more : Puts (reads_bytes (length own) next) sent new
  pub few : length heard + (length pieces + length next) ≤ length heard_now + window

-- the same, where nothing but the own history or a front of it may have been sent
abbrev pub KeepsWindow : ℕ → List ℕ → List ℕ → List ℕ → Option (List ℕ) → Option (List ℕ) → Type 0
KeepsWindow window own heard heard_now old new = Puts (epochs_bytes own) old new ⊎ IsWithin window own heard heard_now old new

-- it did not begin: nothing was acknowledged, and nothing was sent but the own history or a front of it
pub record IsUnbegun (own : List ℕ) (begun begun_now : Option (List ℕ)) (heard heard_now : List ℕ) (old new : Option (List ℕ)) : Type 0 where
  pub none : heard_now ≡ heard
  pub kept : Keeps begun begun_now
  pub told : Puts (epochs_bytes own) old new

-- it began once, from where the admitted follower goes on
pub record HasBegun (pages end : ℕ) (own : List ℕ) (begun begun_now : Option (List ℕ)) (asked old : Option (List ℕ)) : Type 0 where
  pub from : ℕ
  pub between : Option (List ℕ)
  pub then : Option (List ℕ)
  pub admitted : IsAdmitted pages end own from asked between old then
  pub began : Appends begun begun_now (from ∷ [])

-- it began once, or not at all
abbrev pub Begins : ℕ → ℕ → List ℕ → Option (List ℕ) → Option (List ℕ) → List ℕ → List ℕ → Option (List ℕ) → Option (List ℕ) → Option (List ℕ) → Type 0
Begins pages end own begun begun_now heard heard_now asked old new =
    IsUnbegun own begun begun_now heard heard_now old new ⊎ HasBegun pages end own begun begun_now asked old

-- All from where the follower goes on to the end that the log told last was read and sent, and the empty frame last. An answer to each frame was read and
-- acknowledged. n log bytes were new to the follower.
pub record Sends (pages end : ℕ) (own : List ℕ) (reads reads_now : List Read) (heard heard_now : List ℕ) (asked behind old new : Option (List ℕ)) (n : ℕ) : Type 0 where
  pub from : ℕ
  pub between : Option (List ℕ)
  pub then : Option (List ℕ)
  pub sent : Option (List ℕ)
  pub admitted : IsAdmitted pages end own from asked between old then
  pub pieces : List Read
  pub answers : List Lsn
  pub reach : Reach from pieces end
  pub are : reads_now ≡ reads ++ pieces
  pub whole : Appends then sent (reads_bytes (length own) pieces)
  pub closed : Appends sent new (data_bytes (length own) end [])
  pub each : length answers ≡ suc (length pieces)
  pub fit : AreLsns answers
  pub read : Consumes between behind (answers_bytes answers)
  pub kept : heard_now ≡ heard ++ numbers answers
  pub count : n ≡ end - from
