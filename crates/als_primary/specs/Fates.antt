-- What becomes of a piece of work, as it is answered over HTTP.
use Rattle.std.specs.Prelude.{◌≡◌, List, [], ◌∷◌}
use Rattle.als_writer.specs.declared.work.Work.{Work}
use Rattle.als_seats.specs.declared.outcome.Outcome.{Outcome}
use Rattle.als_seats.specs.declared.outcome.Outcome.TheVariants as outcome
use Rattle.als_lead.specs.declared.answer.Answer.{Answer}
use Rattle.als_lead.specs.declared.answer.Answer.TheVariants as answer
use Rattle.als_asking.specs.declared.outcome.Outcome.{Outcome as Fate}
use Rattle.als_asking.specs.declared.outcome.Outcome.TheVariants as fate

-- what the leader told; or that nothing began, or that nothing is known
abbrev pub fate_of : Outcome Answer → Fate
fate_of (outcome.Answered (answer.Committed written)) = fate.Committed written
fate_of (outcome.Answered (answer.Prepared written)) = fate.Prepared written
fate_of (outcome.Answered (answer.Decided written)) = fate.Decided written
fate_of (outcome.Answered (answer.Refused refusal)) = fate.Refused refusal
fate_of (outcome.Answered (answer.NotDecided why)) = fate.NotDecided why
fate_of (outcome.Answered (answer.Unknown written)) = fate.Unknown written
fate_of (outcome.Answered answer.Withheld) = fate.NotBegun
fate_of outcome.NotBegun = fate.NotBegun
fate_of outcome.Lost = fate.Lost

-- it may be told of the work: of what was not begun, and of what is not known, nothing is said
abbrev pub IsFate : (Answer → Type 0) → Fate → Type 0
IsFate may_tell (fate.Committed written) = ∥ may_tell (answer.Committed written) ∥₁
IsFate may_tell (fate.Prepared written) = ∥ may_tell (answer.Prepared written) ∥₁
IsFate may_tell (fate.Decided written) = ∥ may_tell (answer.Decided written) ∥₁
IsFate may_tell (fate.Refused refusal) = ∥ may_tell (answer.Refused refusal) ∥₁
IsFate may_tell (fate.NotDecided why) = ∥ may_tell (answer.NotDecided why) ∥₁
IsFate may_tell (fate.Unknown written) = ∥ may_tell (answer.Unknown written) ∥₁
IsFate may_tell fate.NotBegun = Unit {0}
IsFate may_tell fate.Lost = Unit {0}

-- No work has two outcomes. Each outcome may be told of the work at its place.
abbrev pub AreFates : (Work → Answer → Type 0) → List Work → List Fate → Type 0
AreFates may_tell [] fates = fates ≡ []
AreFates may_tell (q ∷ asked) [] = Unit {0}
AreFates may_tell (q ∷ asked) (f ∷ fates) = IsFate (may_tell q) f × AreFates may_tell asked fates
