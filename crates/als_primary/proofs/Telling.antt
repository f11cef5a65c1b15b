-- What is due by a primary's upkeep is promised.
use Rattle.std.proofs.Common.{◌≡◌, ℕ, List, refl, sym, subst}
use Rattle.als_callers.specs.declared.block.Block.{Block}
use Rattle.als_engine.specs.declared.fault.Fault.{Fault}
use Rattle.als_engine.specs.Machine.{Machine}
use Rattle.als_writer.specs.declared.work.Work.{Work}
use Rattle.als_lead.specs.declared.answer.Answer.{Answer}
use Rattle.als_lead.specs.Owed.{IsDue, Owes}
use Rattle.als_lead.proofs.Owing.{caused_by}
use Rattle.als_primary.specs.declared.answers.Answers.{Answers}
use Rattle.als_primary.specs.Others.{IsConfirmed, IsMissed}
use Rattle.als_primary.specs.Telling.{never_failed, OwesTo}

abbrev pub none_failed : {U : Type 0} → U → Fault → Type 0
none_failed u f = ⊥

module _ {E U : Type 0} (machine : E → Machine) (blocks_in : U → List Block) (count_in : U → ℕ) (answers_in : U → Answers) where
  abbrev pub confirmed_in : U → ℕ → Type 0
  confirmed_in u n = IsConfirmed (blocks_in u) (count_in u) (answers_in u) n

  abbrev pub missed_in : U → ℕ → Type 0
  missed_in u n = IsMissed (blocks_in u) (count_in u) (answers_in u) n

  by_its_own : (start e : E) (u : U) (asked : Work) (a : Answer) → IsDue E U machine confirmed_in missed_in none_failed start e u asked a
      → IsDue E Answers machine (IsConfirmed (blocks_in u) (count_in u)) (IsMissed (blocks_in u) (count_in u)) never_failed start e (answers_in u) asked a
  by_its_own start e u asked a due = record {
    goes_on = due.goes_on;
    true_of = due.true_of;
    holds = due.holds;
    caused = caused_by machine (missed_in u) none_failed never_failed (machine start) (machine e) asked a (λ other f none. absurd none) due.caused;
  }

  -- also where the addresses and how many of them are named
  pub due_by_answers : (start e : E) (u : U) (blocks : List Block) (count : ℕ) (asked : Work) (a : Answer) → blocks_in u ≡ blocks → count_in u ≡ count
      → IsDue E U machine confirmed_in missed_in none_failed start e u asked a → IsDue E Answers machine (IsConfirmed blocks count) (IsMissed blocks count) never_failed start e (answers_in u) asked a
  due_by_answers start e u blocks count asked a same many due =
      subst (λ (k : ℕ). IsDue E Answers machine (IsConfirmed blocks k) (IsMissed blocks k) never_failed start e (answers_in u) asked a) many
      (subst (λ (bs : List Block). IsDue E Answers machine (IsConfirmed bs (count_in u)) (IsMissed bs (count_in u)) never_failed start e (answers_in u) asked a) same (by_its_own start e u asked a due))

  -- so it may be told by this upkeep, whatever it becomes
  pub owes_by : (alone : Type 0) (start : E) (upkeep : U) (may_tell : Work → Answer → Type 0) → OwesTo alone machine start (blocks_in upkeep) (count_in upkeep) may_tell
      → Owes alone machine confirmed_in missed_in (λ a b. (count_in a ≡ count_in b) × (blocks_in a ≡ blocks_in b)) none_failed start upkeep (λ asked answer. may_tell asked.work answer)
  owes_by alone start upkeep may_tell owed e u asked answer keeps misses same due =
      let alike = same upkeep (refl, refl) in
      owed asked.work answer (λ a. (e, answers_in u, due_by_answers start e u (blocks_in upkeep) (count_in upkeep) asked.work answer (sym alike.1) (sym alike.0) (due a)))

-- the same, of this upkeep
pub owes_from : {E U : Type 0} (upkeep : U) (blocks_in : U → List Block) (count_in : U → ℕ) (answers_in : U → Answers) (alone : Type 0) (machine : E → Machine) (start : E) (may_tell : Work → Answer → Type 0)
    → OwesTo alone machine start (blocks_in upkeep) (count_in upkeep) may_tell
    → Owes alone machine (λ u n. IsConfirmed (blocks_in u) (count_in u) (answers_in u) n) (λ u n. IsMissed (blocks_in u) (count_in u) (answers_in u) n)
    (λ a b. (count_in a ≡ count_in b) × (blocks_in a ≡ blocks_in b)) (λ u f. ⊥) start upkeep (λ asked answer. may_tell asked.work answer)
owes_from upkeep blocks_in count_in answers_in alone machine start may_tell owed = owes_by machine blocks_in count_in answers_in alone start upkeep may_tell owed
