-- The text that has come, and what was read, written and answered while it grew.
use Rattle.std.specs.Prelude.{◌≡◌, ◌≤◌, ◌<◌, ℕ, ◌+◌, List, ◌++◌, length, Option}
use Rattle.std.specs.List.{AllByRecursion}
use Rattle.std.specs.Io.KnownBytes.{Consumes, Appends}
use Rattle.als_record.specs.LogText.{log_text}
use Rattle.als_wire.specs.declared.frame.Frame.{Frame}
use Rattle.als_wire.specs.Frames.{frame_bytes}
use Rattle.als_ship.specs.Follows.{IsFront, IsTrueFrame}
use Rattle.als_ship.specs.Sessions.{frames_bytes}
use Rattle.als_ship.specs.Vouching.{AreVouched, AnswersAll, AnswersPart}
use Rattle.als_lookback.specs.Judged.{Judged}

-- all that has come of a log: the records judged so far, and the bytes behind them
abbrev pub held_in : Judged → List ℕ
held_in j = log_text j.pages j.log ++ j.kept

-- What has come grew by these bytes, which were written too. Where what was read says the truth of the texts of all epochs, what has come stays a front of
-- the text of this epoch.
pub record Grows (truth : (ℕ → List ℕ) → List ℕ → Type 0) (epoch : ℕ) (old new : Judged) (out more_out : Option (List ℕ)) : Type 0 where
  pub more : List ℕ
  pub held : held_in new ≡ held_in old ++ more
  pub written : Appends out more_out more
  pub true_front : (texts : ℕ → List ℕ) (seals : List ℕ) → truth texts seals → IsFront (held_in old) (texts epoch) → IsFront (held_in new) (texts epoch)

-- one frame was read, and what of it is new was taken and written
abbrev pub TakesFrame : ℕ → Judged → Judged → Option (List ℕ) → Option (List ℕ) → Option (List ℕ) → Option (List ℕ) → Type 0
TakesFrame epoch old new before behind out more_out =
    (frame : Frame) × Consumes before behind (frame_bytes frame) × Grows (λ texts seals. IsTrueFrame texts seals frame) epoch old new out more_out

-- frames were, one after another
abbrev pub TakesFrames : ℕ → Judged → Judged → Option (List ℕ) → Option (List ℕ) → Option (List ℕ) → Option (List ℕ) → Type 0
TakesFrames epoch old new before behind out more_out =
    (frames : List Frame) × Consumes before behind (frames_bytes frames) × Grows (λ texts seals. AllByRecursion (IsTrueFrame texts seals) frames) epoch old new out more_out

-- Nothing was acknowledged: each frame was answered with the LSN of the first record or a lower one, and of one more answer a front was written at most.
pub record AcknowledgesNothing (told more_told : Option (List ℕ)) : Type 0 where
  pub mid : Option (List ℕ)
  pub answers : AnswersAll 16 told mid
  pub part : AnswersPart 16 mid more_told
