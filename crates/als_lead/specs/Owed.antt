-- When an answer may be told: at the moment at which it is.
use Rattle.std.specs.Prelude.{◌≡◌, ℕ, ◌⊎◌, Err}
use Rattle.als_engine.specs.declared.fault.Fault.{Fault}
use Rattle.als_engine.specs.declared.fault.Fault.TheVariants.{NotDrained}
use Rattle.als_engine.specs.Events.{LogWrites, LogSyncs, MarkWrites, ControlSyncs}
use Rattle.als_engine.specs.Machine.{Machine}
use Rattle.als_writer.specs.declared.work.Work.{Work}
use Rattle.als_lead.specs.declared.answer.Answer.{Answer}
use Rattle.als_lead.specs.declared.answer.Answer.TheVariants.{Unknown, Withheld}
use Rattle.als_lead.specs.declared.asked.Asked.{Asked}
use Rattle.als_lead.specs.Going.{Grows}
use Rattle.als_lead.specs.Answers.{IsTrueAnswer}
use Rattle.als_lead.specs.Confirming.{IsConfirmedBy, IsDoubted}

-- ---- why a force fails

-- one of a force's events was refused by a fault, or all of them were done and the log is not acknowledged to its end
abbrev pub RefusesForce : Machine → Fault → Machine → Type 0
RefusesForce old f new = LogWrites old (Err f) new ⊎ (LogSyncs old (Err f) new ⊎ (MarkWrites old (Err f) new ⊎ (ControlSyncs old (Err f) new ⊎ (f ≡ NotDrained))))

-- that came of an engine that goes on from this machine
pub record IsNotForced (E : Type 0) (machine : E → Machine) (start : Machine) (f : Fault) : Type 0 where
  pub before : E
  pub after : E
  pub goes_on : Grows start (machine before)
  pub refused : RefusesForce (machine before) f (machine after)

-- the force of a group failed, or its confirmation
abbrev pub HasFailed : {E U : Type 0} → (E → Machine) → (U → Fault → Type 0) → Machine → Type 0
HasFailed {E} {U} machine failed start = (f : Fault) × (IsNotForced E machine start f ⊎ ((u : U) × failed u f))

-- ---- what is due

-- It is unknown whether what is written stays only where a confirmation was missed, the end of a commit was owed, or the group's force or its
-- confirmation failed. A reason is withheld only where a confirmation was missed.
abbrev pub IsCaused : {E U : Type 0} → (E → Machine) → (ℕ → Type 0) → (U → Fault → Type 0) → Machine → Machine → Work → Answer → Type 0
IsCaused machine missed failed start m asked (Unknown w) = IsDoubted missed machine m asked w ⊎ HasFailed machine failed start
IsCaused machine missed failed start m asked Withheld = (end : ℕ) × missed end
IsCaused machine missed failed start m asked _ = Unit {0}

-- An answer is due of an engine that goes on from the one of the start: it is true of it and confirmed, and it has its cause.
pub record IsDue (E U : Type 0) (machine : E → Machine) (confirmed missed : U → ℕ → Type 0) (failed : U → Fault → Type 0) (start engine : E) (upkeep : U) (asked : Work) (answer : Answer) : Type 0 where
  pub goes_on : Grows (machine start) (machine engine)
  pub true_of : IsTrueAnswer (machine engine) asked answer
  pub holds : IsConfirmedBy (confirmed upkeep) (machine engine) asked answer
  pub caused : IsCaused machine (missed upkeep) failed (machine start) (machine engine) asked answer

-- Whatever is due of an engine that goes on from this one, by an upkeep that confirms as this one does and keeps what it confirmed and missed, may be
-- told.
abbrev pub Owes : {E U : Type 0} → Type 0 → (E → Machine) → (U → ℕ → Type 0) → (U → ℕ → Type 0) → (U → U → Type 0) → (U → Fault → Type 0) → E → U → (Asked → Answer → Type 0) → Type 0
Owes {E} {U} alone machine confirmed missed alike failed start upkeep may_tell =
    (e : E) (u : U) (asked : Asked) (answer : Answer) → ((n : ℕ) → confirmed upkeep n → confirmed u n) → ((n : ℕ) → missed upkeep n → missed u n) → ((other : U) → alike other upkeep → alike other u)
    → (alone → IsDue E U machine confirmed missed failed start e u asked.work answer) → may_tell asked answer
