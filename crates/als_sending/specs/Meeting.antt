-- How a follower is met: it asks, is told the own history, and is admitted or refused.
use Rattle.std.specs.Prelude.{◌≤◌, ◌<◌, ◌^◌, ℕ, List, Option, Ok}
use Rattle.std.specs.Io.KnownBytes.{Consumes, Appends}
use Rattle.als_epochs.specs.declared.step.Step.{Step}
use Rattle.als_epochs.specs.Histories.{IsHistory}
use Rattle.als_epochs.specs.Judging.{Judges}
use Rattle.als_wire.specs.Frames.{resume_bytes, epochs_bytes}
use Rattle.als_wire.specs.Reading.{IsHeader}
use Rattle.als_wire.specs.Sending.{Puts}
use Rattle.als_ship.specs.declared.fault.Fault.{Fault}
use Rattle.als_ship.specs.Wire.{FailsToServe}

-- The follower asked, with this header: it goes on from here. It was told the own history, which goes on from its own one, if it is not the same, and it goes
-- on at or below the first seal that it lacks, and at or below the end.
pub record IsAdmitted (pages end : ℕ) (own : List ℕ) (from : ℕ) (asked between old then : Option (List ℕ)) : Type 0 where
  pub theirs : List ℕ
  pub history : IsHistory theirs
  pub step : Step
  pub judged : Judges theirs own from (Ok step)
  pub fits : from < 2 ^ 64
  pub range : IsHeader (record { pages = pages })
  pub within : from ≤ end
  pub heard : Consumes asked between (resume_bytes from pages theirs)
  pub told : Appends old then (epochs_bytes own)

-- Why a session ended early, of a log with this page count that told this end last: as a shipper's.
abbrev pub FailsToSend : ℕ → List ℕ → ℕ → Fault → Option (List ℕ) → Type 0
FailsToSend pages own end fault asked = FailsToServe (record { pages = pages }) own end fault asked

-- it was not admitted: nothing was sent but the own history or a front of it
abbrev pub IsTurnedAway : ℕ → List ℕ → ℕ → Fault → Option (List ℕ) → Option (List ℕ) → Option (List ℕ) → Type 0
IsTurnedAway pages own end fault asked old new = FailsToSend pages own end fault asked × Puts (epochs_bytes own) old new
