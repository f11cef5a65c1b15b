-- The compensations of a tail are those of the losers' updates, in the order of the sweep.
use Rattle.std.proofs.Common.{◌≡◌, ℕ, ◌==◌, Bool, true, false, cond, List, [], ◌∷◌, ◌++◌, filter, refl, sym, ap, ◌∙◌, inl, inr, subst}
use Rattle.std.specs.List.{list_any, AllByRecursion}
use Rattle.std.proofs.lemmas.Bool.{cases_Bool, false≢true}
use Rattle.als_record.specs.declared.record.Body.{Body}
use Rattle.als_record.specs.declared.record.Body.TheVariants.{Update, Compensation, Commit, Rollback, End, BeginCheckpoint, EndCheckpoint, Prepare}
use Rattle.als_record.specs.declared.record.Record.{Record}
use Rattle.als_record.specs.Transactions.{is_update, to_undo, is_loser, unended, all_surviving}
use Rattle.als_record.specs.Tail.{TailStep, Ends, Undoes, is_finished, ends, undoes, losing, tail_steps, undone, record_for, numbered, tail_of}
use Rattle.als_record.specs.Sweep.{compensations, IsUndone, AreCompensationsOf}
use Rattle.als_record.proofs.Survivors.{is_by, All-is_update}
use Rattle.als_record.proofs.TailSteps.{filter-none, undone-is_compensation}
use Rattle.als_record.proofs.Falling.{All-filter, losing-by}

-- the updates that steps undo, in order
abbrev undone_in : List TailStep → List Record
undone_in [] = []
undone_in (Ends t ∷ rest) = undone_in rest
undone_in (Undoes u ∷ rest) = u ∷ undone_in rest

undone_in-ends : (ts : List ℕ) (steps : List TailStep) → undone_in (ends ts ++ steps) ≡ undone_in steps
undone_in-ends [] steps = refl
undone_in-ends (t ∷ ts) steps = undone_in-ends ts steps

undone_in-undoes : (us : List Record) → undone_in (undoes us) ≡ us
unfolding undoes
undone_in-undoes [] = refl
undone_in-undoes (u ∷ us) = ap (λ vs. u ∷ vs) (closing (list_any (λ v. v.trans.0 == u.trans.0) us) ∙ undone_in-undoes us)
  where
    closing : (later : Bool) → undone_in (cond later (undoes us) (Ends u.trans.0 ∷ undoes us)) ≡ undone_in (undoes us)
    closing true = refl
    closing false = refl

-- what undoes an update is its compensation
undone-IsUndone : (u : Record) (b : Body) → is_update b ≡ true → IsUndone u b (undone u.prev b)
undone-IsUndone u (Update key before after) e = refl
undone-IsUndone u (Compensation undo_next key after) e = absurd (false≢true e)
undone-IsUndone u Commit e = absurd (false≢true e)
undone-IsUndone u Rollback e = absurd (false≢true e)
undone-IsUndone u End e = absurd (false≢true e)
undone-IsUndone u BeginCheckpoint e = absurd (false≢true e)
undone-IsUndone u (EndCheckpoint transactions pages) e = absurd (false≢true e)
undone-IsUndone u Prepare e = absurd (false≢true e)

-- the records of steps, wherever the log ends
compensations-numbered : (log : List Record) (steps : List TailStep) → AllByRecursion (λ u. is_update u.body ≡ true) (undone_in steps) → AreCompensationsOf (undone_in steps) (compensations (numbered log steps))
unfolding numbered
compensations-numbered log [] a = tt
compensations-numbered log (Ends t ∷ rest) a = compensations-numbered (log ++ record_for log (Ends t) ∷ []) rest a
compensations-numbered log (Undoes u ∷ rest) a =
    rw (undone-is_compensation u.prev u.body a.0)
    (refl, undone-IsUndone u u.body a.0, compensations-numbered (log ++ record_for log (Undoes u) ∷ []) rest a.1)

losing-updates : (log : List Record) → AllByRecursion (λ u. is_update u.body ≡ true) (losing log)
unfolding losing
losing-updates log = All-filter (λ u. is_update u.body ≡ true) (λ u. is_loser log u.trans.0) (all_surviving log) (All-is_update log)

pub compensations-tail_of : (log : List Record) → AreCompensationsOf (losing log) (compensations (tail_of log))
unfolding tail_of tail_steps
compensations-tail_of log = subst (λ us. AreCompensationsOf us (compensations (numbered log steps))) is (compensations-numbered log steps (subst (AllByRecursion (λ u. is_update u.body ≡ true)) (sym is) (losing-updates log)))
  where
    steps : List TailStep
    steps = ends (filter (is_finished log) (unended log)) ++ undoes (losing log)

    is : undone_in steps ≡ losing log
    is = undone_in-ends (filter (is_finished log) (unended log)) (undoes (losing log)) ∙ undone_in-undoes (losing log)

-- of each transaction the sweep undoes what is to undo if it is a loser, and nothing of any other
pub losing-of : (log : List Record) (t : ℕ) → filter (is_by t) (losing log) ≡ cond (is_loser log t) (to_undo log t) []
unfolding losing
losing-of log t = elim (cases_Bool (is_loser log t)) [
  | inl e ↦ rw e (losing-by log t e)
  | inr e ↦ rw e (filter-none (is_loser log) t e (all_surviving log))
]
