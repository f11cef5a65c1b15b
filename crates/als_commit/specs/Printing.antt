-- When the line of an answer may be printed.
use Rattle.std.specs.Prelude.{ℕ}
use Rattle.als_engine.specs.declared.fault.Fault.{Fault}
use Rattle.als_engine.specs.Machine.{Machine}
use Rattle.als_lead.specs.declared.answer.Answer.{Answer}
use Rattle.als_lead.specs.declared.asked.Asked.{Asked}
use Rattle.als_lead.specs.Owed.{IsDue}

-- nobody else has to hold the log, so all of it is confirmed and no confirmation is missed or fails
abbrev pub always : Unit {0} → ℕ → Type 0
always nobody n = Unit {0}

abbrev pub never : Unit {0} → ℕ → Type 0
never nobody n = ⊥

abbrev pub never_fails : Unit {0} → Fault → Type 0
never_fails nobody f = ⊥

-- Where nobody else drives the engine: it is true of a machine that the engine has become since the command began, and has its cause.
abbrev pub IsPrintable : {E : Type 0} → Type 0 → (E → Machine) → E → Asked → Answer → Type 0
IsPrintable {E} alone machine start asked answer = alone → (engine : E) × IsDue E (Unit {0}) machine always never never_fails start engine tt asked.work answer

-- all that is printable may be printed
abbrev pub OwesTo : {E : Type 0} → Type 0 → (E → Machine) → E → (Asked → Answer → Type 0) → Type 0
OwesTo alone machine start may_print = (asked : Asked) (answer : Answer) → IsPrintable alone machine start asked answer → may_print asked answer
