-- What became of one who came: a question was asked, or a session was served.
use Rattle.std.specs.Prelude.{◌≡◌, ◌≢◌, ◌⊎◌, ℕ, List, ◌∷◌, Option, None, IfSome}
use Rattle.std.specs.Io.KnownBytes.{Keeps}
use Rattle.als_ship.specs.declared.fault.Fault.{Fault}
use Rattle.als_sending.specs.Reads.{Read, AreOf}
use Rattle.als_sending.specs.Sent.{SendsTrue}
use Rattle.als_sending.specs.Meeting.{FailsToSend}
use Rattle.als_sending.specs.Session.{Hears, KeepsWindow, Begins, Sends}
use Rattle.als_comparing.specs.Answers.{AnswersOne, IsOfAnswer}

-- the bytes of a stream are these, where they are known
abbrev pub AreKnownAs : Option (List ℕ) → Option (List ℕ) → Type 0
AreKnownAs known bytes = (known ≡ None) ⊎ (known ≡ bytes)

-- the first byte is V or R, where it is known
abbrev pub BeginsQuestion : Option (List ℕ) → Type 0
BeginsQuestion asked = IfSome asked (λ (bytes : List ℕ). (byte : ℕ) × (rest : List ℕ) × ((byte ≡ 86) ⊎ (byte ≡ 82)) × (bytes ≡ byte ∷ rest))

-- the first byte is another one, where it is known
abbrev pub BeginsOther : Option (List ℕ) → Type 0
BeginsOther asked = IfSome asked (λ (bytes : List ℕ). (byte : ℕ) × (rest : List ℕ) × (byte ≢ 86) × (byte ≢ 82) × (bytes ≡ byte ∷ rest))

-- A question began, and no session: nothing was acknowledged.
pub record IsAsked (asked : Option (List ℕ)) (heard heard_now : List ℕ) (begun begun_now : Option (List ℕ)) : Type 0 where
  pub first : BeginsQuestion asked
  pub none : heard_now ≡ heard
  pub kept : Keeps begun begun_now

-- What a session acknowledged, whatever ended it: nothing, or the answers that were read behind the question of an admitted follower, in order, and nothing
-- else. No more than the window of frames is without one. It began once, or not at all.
pub record IsHeard (window pages end : ℕ) (own : List ℕ) (asked : Option (List ℕ)) (heard heard_now : List ℕ) (begun begun_now old new : Option (List ℕ)) : Type 0 where
  pub came : Option (List ℕ)
  pub known : AreKnownAs asked came
  pub hears : Hears pages end own heard heard_now came old
  pub keeps : KeepsWindow window own heard heard_now old new
  pub begins : Begins pages end own begun begun_now heard heard_now came old new

-- the same, and what it sent are true frames of each text of which all reads are
abbrev pub IsServed : ℕ → ℕ → ℕ → List ℕ → List Read → Option (List ℕ) → List ℕ → List ℕ → Option (List ℕ) → Option (List ℕ) → Option (List ℕ) → Option (List ℕ) → Type 0
IsServed window pages end own reads asked heard heard_now begun begun_now old new = IsHeard window pages end own asked heard heard_now begun begun_now old new
    × ((text : List ℕ) → AreOf text reads → SendsTrue text own old new)

-- A question was answered, and no session began: nothing was acknowledged, and no log byte was new to who asked.
pub record IsAnswered (end : ℕ) (own : List ℕ) (reads_now : List Read) (asked behind : Option (List ℕ)) (heard heard_now : List ℕ) (begun begun_now old new : Option (List ℕ)) (n : ℕ) : Type 0 where
  pub question : IsAsked asked heard heard_now begun begun_now
  pub answers : AnswersOne reads_now end own asked behind old new
  pub none : n ≡ 0

-- A session was served whole, and no question was asked: all from where the follower goes on to the end that the log told last was sent, an answer to each
-- frame was read and acknowledged, and n log bytes were new to the follower. What its stream has left behind the last answer is not told.
pub record IsServedWhole (pages end : ℕ) (own : List ℕ) (reads reads_now : List Read) (asked : Option (List ℕ)) (heard heard_now : List ℕ) (old new : Option (List ℕ)) (n : ℕ) : Type 0 where
  pub came : Option (List ℕ)
  pub left : Option (List ℕ)
  pub first : BeginsOther asked
  pub known : AreKnownAs asked came
  pub sends : Sends pages end own reads reads_now heard heard_now came left old new n

-- How it ended, where it ended well: a question was answered, or a session was served whole. There is no third way.
abbrev pub EndsWell : ℕ → ℕ → List ℕ → List Read → List Read → Option (List ℕ) → Option (List ℕ) → List ℕ → List ℕ → Option (List ℕ) → Option (List ℕ) → Option (List ℕ) → Option (List ℕ) → ℕ → Type 0
EndsWell pages end own reads reads_now asked behind heard heard_now begun begun_now old new n = IsAnswered end own reads_now asked behind heard heard_now begun begun_now old new n
    ⊎ IsServedWhole pages end own reads reads_now asked heard heard_now old new n

-- why a question was not answered, or a session ended early
abbrev pub FailsToServe : ℕ → List ℕ → ℕ → Fault → Option (List ℕ) → Type 0
FailsToServe pages own end fault asked = (BeginsQuestion asked × IsOfAnswer fault) ⊎ ((came : Option (List ℕ)) × AreKnownAs asked came × FailsToSend pages own end fault came)
