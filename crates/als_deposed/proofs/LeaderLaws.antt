-- A commit that a leader may answer stays where a standby acknowledged it.
use Rattle.std.proofs.Common.{◌≡◌, ◌≤◌, ℕ, List, ◌∷◌, [], ◌++◌, arith}
use Rattle.std.specs.Prelude.{Option}
use Rattle.als_record.specs.declared.record.Record.{Record}
use Rattle.als_record.specs.LogText.{end_of, IsLog}
use Rattle.als_record.specs.Validity.{IsValidLog}
use Rattle.als_lease.specs.Lease.{Leased}
use Rattle.als_store.specs.Stored.{acknowledged}
use Rattle.als_engine.specs.declared.fault.Fault.{Fault}
use Rattle.als_engine.specs.Machine.{Machine}
use Rattle.als_writer.specs.declared.transaction.Transaction.{Transaction}
use Rattle.als_writer.specs.declared.work.Work.TheVariants as work
use Rattle.als_writer.specs.declared.written.Written.{Written}
use Rattle.als_ship.specs.Follows.{IsFront, HoldsFront, epoch_of}
use Rattle.als_world.specs.Standing.{Standing, Up, Keeps, log_of}
use Rattle.als_lead.specs.declared.answer.Answer.TheVariants as answer
use Rattle.als_lead.specs.Owed.{IsDue}
use Rattle.als_lead.specs.Placed.{IsCommitOf, acknowledged_text}
use Rattle.als_lead.proofs.Commits.{commit_in_log}
use Rattle.als_deposed.specs.Answered.{IsAnswered, GoesOnFrom}
use Rattle.als_deposed.proofs.Going.{taken_over}

-- a standby that told an offset at or above the end that was answered has the commit
has_commit : (texts : ℕ → List ℕ) (seals : List ℕ) (m : Machine) (t : Transaction) (w : Written) (front : List Record) (r : Record) (end told : ℕ) (standby : Machine) → IsCommitOf m t w front r → w.end.0 ≤ end
    → IsFront (acknowledged_text m) (texts (epoch_of standby)) → HoldsFront texts seals standby → IsLog standby.held.pages standby.held.log → end ≤ told → told ≤ acknowledged standby.held
    → IsAnswered texts seals m.held.pages front r told standby
has_commit texts seals m t w front r end told standby c reaches text holds is_log enough vouched = record {
  there = record { begins = c.there (texts (epoch_of standby)) text; is_log = c.is_log; commits = c.commits };
  holds = holds;
  is_log = is_log;
  ends = (let ends = c.ends in omega (arith, ends, reaches, enough));
  vouched = vouched;
}

module _ {E U : Type 0} (machine : E → Machine) (confirmed missed : U → ℕ → Type 0) (failed : U → Fault → Type 0) (start e : E) (u : U) (t : Transaction) (w : Written)
    (due : IsDue E U machine confirmed missed failed start e u (work.Commit t) (answer.Committed w)) (valid : IsValidLog (machine e).held.pages (machine e).held.log) where
  placed : (front : List Record) × (r : Record) × IsCommitOf (machine e) t w front r
  placed = commit_in_log (machine e) t w valid due.true_of.1

  pub due_answered : (end : ℕ) × (w.end.0 ≤ end) × confirmed u end × (front : List Record) × (r : Record) × IsCommitOf (machine e) t w front r
      × ((texts : ℕ → List ℕ) (seals : List ℕ) (told : ℕ) (standby : Machine) → IsFront (acknowledged_text (machine e)) (texts (epoch_of standby)) → HoldsFront texts seals standby
      → IsLog standby.held.pages standby.held.log → end ≤ told → told ≤ acknowledged standby.held → IsAnswered texts seals (machine e).held.pages front r told standby)
  due_answered = (
    due.holds.0,
    due.holds.1,
    due.holds.2,
    placed.0,
    placed.1,
    placed.2,
    λ texts seals told standby text holds is_log enough vouched.
        has_commit texts seals (machine e) t w placed.0 placed.1 due.holds.0 told standby placed.2 due.holds.1 text holds is_log enough vouched,
  )

  pub due_kept : (end : ℕ) × (w.end.0 ≤ end) × confirmed u end × (front : List Record) × (r : Record) × IsCommitOf (machine e) t w front r
      × ((texts : ℕ → List ℕ) (seals : List ℕ) (told : ℕ) (standby : Machine) (leases : List (Option Leased)) (new : Standing) → IsFront (acknowledged_text (machine e)) (texts (epoch_of standby))
      → HoldsFront texts seals standby → IsLog standby.held.pages standby.held.log → end ≤ told → told ≤ acknowledged standby.held → Keeps (Up standby leases) new → GoesOnFrom (log_of new) front r)
  due_kept = (
    due.holds.0,
    due.holds.1,
    due.holds.2,
    placed.0,
    placed.1,
    placed.2,
    λ texts seals told standby leases new text holds is_log enough vouched keeps.
        taken_over texts seals (machine e).held.pages placed.0 placed.1 told standby leases new
        (has_commit texts seals (machine e) t w placed.0 placed.1 due.holds.0 told standby placed.2 due.holds.1 text holds is_log enough vouched) keeps,
  )
