-- What is due by an upkeep that confirms by itself is printable.
use Rattle.std.proofs.Common.{ℕ}
use Rattle.als_engine.specs.declared.fault.Fault.{Fault}
use Rattle.als_engine.specs.Machine.{Machine}
use Rattle.als_writer.specs.declared.work.Work.{Work}
use Rattle.als_lead.specs.declared.answer.Answer.{Answer}
use Rattle.als_lead.specs.Owed.{IsDue}
use Rattle.als_lead.proofs.Owing.{caused_by}
use Rattle.als_commit.specs.Printing.{always, never, never_fails}

pub due_by_itself : {E U : Type 0} (machine : E → Machine) (start e : E) (u : U) (asked : Work) (a : Answer) → IsDue E U machine (λ v n. Unit {0}) (λ v n. ⊥) (λ v f. ⊥) start e u asked a
    → IsDue E (Unit {0}) machine always never never_fails start e tt asked a
due_by_itself {E} {U} machine start e u asked a due = record {
  goes_on = due.goes_on;
  true_of = due.true_of;
  holds = due.holds;
  caused = caused_by machine (never tt) (λ (v : U) (f : Fault). ⊥) never_fails (machine start) (machine e) asked a (λ v f none. absurd none) due.caused;
}
