-- The surviving updates stand in falling LSN: which of the losers' is the first to undo.
use Rattle.std.proofs.Common.{◌≡◌, ℕ, ◌==◌, ◌+◌, ◌≤◌, ◌<◌, Bool, true, List, [], ◌∷◌, ◌++◌, filter, refl, sym, ap, ◌∙◌, inl, inr, subst, arith}
use Rattle.std.specs.List.{AllByRecursion}
use Rattle.std.proofs.lemmas.Bool.{cases_Bool, eq-eqb}
use Rattle.als_record.specs.declared.record.Body.{Body}
use Rattle.als_record.specs.declared.record.Body.TheVariants.{Update, Compensation, Commit, Rollback, End, BeginCheckpoint, EndCheckpoint, Prepare}
use Rattle.als_record.specs.declared.record.Record.{Record}
use Rattle.als_record.specs.Spelling.{record_len}
use Rattle.als_record.specs.LogText.{end_of}
use Rattle.als_record.specs.Transactions.{to_undo, is_loser, without_newest, survivors_after, all_surviving}
use Rattle.als_record.specs.Tail.{losing}
use Rattle.als_record.specs.Validity.{is_valid}
use Rattle.als_record.proofs.Survivors.{is_by, all_surviving-push, all_surviving-by, all_surviving-nil, All-without_newest, All-weaken}
use Rattle.als_record.proofs.Validity.{Admitted, valid_induction}
use Rattle.als_record.proofs.TailSteps.{filter-by, losing-is_loser}
use Rattle.als_record.proofs.Places.{end_of-push, record_len-head}
pub use Rattle.als_record.specs.Orders.{Falling}

Falling-without_newest : (t : ℕ) (us : List Record) → Falling us → Falling (without_newest t us)
Falling-without_newest t [] f = tt
Falling-without_newest t (u ∷ rest) f = elim (cases_Bool (u.trans.0 == t)) [
  | inl e ↦ rw e f.1
  | inr e ↦ rw e (All-without_newest (λ v. v.lsn.0 < u.lsn.0) t rest f.0, Falling-without_newest t rest f.1)
]

pub All-filter : (P : Record → Type 0) (p : Record → Bool) (us : List Record) → AllByRecursion P us → AllByRecursion P (filter p us)
All-filter P p [] a = tt
All-filter P p (u ∷ rest) a = elim (cases_Bool (p u)) [
  | inl e ↦ rw e (a.0, All-filter P p rest a.1)
  | inr e ↦ rw e (All-filter P p rest a.1)
]

pub Falling-filter : (p : Record → Bool) (us : List Record) → Falling us → Falling (filter p us)
Falling-filter p [] f = tt
Falling-filter p (u ∷ rest) f = elim (cases_Bool (p u)) [
  | inl e ↦ rw e (All-filter (λ v. v.lsn.0 < u.lsn.0) p rest f.0, Falling-filter p rest f.1)
  | inr e ↦ rw e (Falling-filter p rest f.1)
]

record Placed (log : List Record) : Type 0 where
  falling : Falling (all_surviving log)
  below : AllByRecursion (λ u. u.lsn.0 < end_of log) (all_surviving log)

placed : (log : List Record) → is_valid log ≡ true → Placed log
placed log v = valid_induction Placed (record { falling = rw all_surviving-nil tt; below = rw all_surviving-nil tt }) step log v
  where
    step : (l : List Record) (r : Record) → is_valid l ≡ true → Placed l → Admitted l r → Placed (l ++ r ∷ [])
    step l r w p a = go r.body refl
      where
        grown : end_of (l ++ r ∷ []) ≡ end_of l + record_len r
        grown = end_of-push l r

        up : AllByRecursion (λ u. u.lsn.0 < end_of (l ++ r ∷ [])) (all_surviving l)
        up = All-weaken (λ u. u.lsn.0 < end_of l) (λ u. u.lsn.0 < end_of (l ++ r ∷ [])) (λ u h. let g : end_of (l ++ r ∷ []) ≡ end_of l + record_len r = end_of-push l r in omega arith) (all_surviving l) p.below

        last : r.lsn.0 < end_of (l ++ r ∷ [])
        last =
            let g : end_of (l ++ r ∷ []) ≡ end_of l + record_len r = end_of-push l r in
            let n : 28 ≤ record_len r = record_len-head r in
            let q : r.lsn.0 ≡ end_of l = a.place in omega arith

        under : AllByRecursion (λ u. u.lsn.0 < r.lsn.0) (all_surviving l)
        under = All-weaken (λ u. u.lsn.0 < end_of l) (λ u. u.lsn.0 < r.lsn.0) (λ u h. rw a.place h) (all_surviving l) p.below

        same : all_surviving (l ++ r ∷ []) ≡ all_surviving l → Placed (l ++ r ∷ [])
        same e = record { falling = rw e p.falling; below = rw e up }

        go : (b : Body) → r.body ≡ b → Placed (l ++ r ∷ [])
        go (Update key before after) b =
            let e : all_surviving (l ++ r ∷ []) ≡ r ∷ all_surviving l = all_surviving-push l r ∙ ap (survivors_after (all_surviving l) r) b in
            record { falling = rw e (under, p.falling); below = rw e (last, up) }
        go (Compensation undo_next key after) b =
            let e : all_surviving (l ++ r ∷ []) ≡ without_newest r.trans.0 (all_surviving l) = all_surviving-push l r ∙ ap (survivors_after (all_surviving l) r) b in
            record { falling = rw e (Falling-without_newest r.trans.0 (all_surviving l) p.falling); below = rw e (All-without_newest (λ u. u.lsn.0 < end_of (l ++ r ∷ [])) r.trans.0 (all_surviving l) up) }
        go Commit b = same (all_surviving-push l r ∙ ap (survivors_after (all_surviving l) r) b)
        go Rollback b = same (all_surviving-push l r ∙ ap (survivors_after (all_surviving l) r) b)
        go End b = same (all_surviving-push l r ∙ ap (survivors_after (all_surviving l) r) b)
        go BeginCheckpoint b = same (all_surviving-push l r ∙ ap (survivors_after (all_surviving l) r) b)
        go (EndCheckpoint transactions pages) b = same (all_surviving-push l r ∙ ap (survivors_after (all_surviving l) r) b)
        go Prepare b = same (all_surviving-push l r ∙ ap (survivors_after (all_surviving l) r) b)

pub Falling-all_surviving : (log : List Record) → is_valid log ≡ true → Falling (all_surviving log)
Falling-all_surviving log v = (placed log v).falling

-- a takeover's sweep falls
pub Falling-losing : (log : List Record) → is_valid log ≡ true → Falling (losing log)
unfolding losing
Falling-losing log v = Falling-filter (λ u. is_loser log u.trans.0) (all_surviving log) (Falling-all_surviving log v)

pub Falling-to_undo : (log : List Record) (t : ℕ) → is_valid log ≡ true → Falling (to_undo log t)
Falling-to_undo log t v = subst Falling (all_surviving-by t log) (Falling-filter (is_by t) (all_surviving log) (Falling-all_surviving log v))

-- ---- the first to undo of all is the newest of the losers' newest

-- a loser's updates are among the losing ones
pub losing-by : (log : List Record) (t : ℕ) → is_loser log t ≡ true → filter (is_by t) (losing log) ≡ to_undo log t
unfolding losing
losing-by log t l = filter-by (is_loser log) t l (all_surviving log) ∙ all_surviving-by t log

-- the newest of each loser is not above the first to undo
pub losing-greatest : (log : List Record) → is_valid log ≡ true → (u : Record) (us : List Record) → losing log ≡ u ∷ us → (t : ℕ) → is_loser log t ≡ true → (w : Record) (rest : List Record) → to_undo log t ≡ w ∷ rest → w.lsn.0 ≤ u.lsn.0
losing-greatest log v u us e t l w rest q = (subst (AllByRecursion (λ x. x.lsn.0 ≤ u.lsn.0)) (losing-by log t l ∙ q) (All-filter (λ x. x.lsn.0 ≤ u.lsn.0) (is_by t) (losing log) (subst (AllByRecursion (λ x. x.lsn.0 ≤ u.lsn.0)) (sym e) (first (subst Falling e (Falling-losing log v)))))).0
  where
    first : Falling (u ∷ us) → AllByRecursion (λ x. x.lsn.0 ≤ u.lsn.0) (u ∷ us)
    first f = (omega arith, All-weaken (λ x. x.lsn.0 < u.lsn.0) (λ x. x.lsn.0 ≤ u.lsn.0) (λ x h. omega arith) us f.0)

-- and the first to undo is the newest of its own transaction, a loser
pub losing-newest : (log : List Record) (u : Record) (us : List Record) → losing log ≡ u ∷ us → to_undo log u.trans.0 ≡ u ∷ filter (is_by u.trans.0) us
losing-newest log u us e = sym (losing-by log u.trans.0 (losing-is_loser log u us e)) ∙ ap (filter (is_by u.trans.0)) e ∙ rw (eq-eqb u.trans.0 u.trans.0 refl) refl

-- so a loser's newest update is the first to undo where no loser's newest stands above it
pub losing-first : (log : List Record) → is_valid log ≡ true → (t : ℕ) → is_loser log t ≡ true → (w : Record) (rest : List Record) → to_undo log t ≡ w ∷ rest → ((s : ℕ) → is_loser log s ≡ true → (x : Record) (more : List Record) → to_undo log s ≡ x ∷ more → x.lsn.0 ≤ w.lsn.0) → (us : List Record) × (losing log ≡ w ∷ us)
losing-first log v t l w rest q top = go (losing log) refl
  where
    go : (us : List Record) → losing log ≡ us → (us : List Record) × (losing log ≡ w ∷ us)
    go [] e = absurd (cc (sym q ∙ sym (losing-by log t l) ∙ ap (filter (is_by t)) e))
    go (u ∷ us) e = (
      us,
      e ∙ ap (λ x. x ∷ us) (elim (cases_Bool (u.trans.0 == t)) [
        | inl y ↦ let g : u ∷ filter (is_by t) us ≡ w ∷ rest = (rw y at f) in cc g
        | inr y ↦
            let g : filter (is_by t) us ≡ w ∷ rest = (rw y at f) in
            let lower : w.lsn.0 < u.lsn.0 = (subst (AllByRecursion (λ x. x.lsn.0 < u.lsn.0)) g (All-filter (λ x. x.lsn.0 < u.lsn.0) (is_by t) us (subst Falling e (Falling-losing log v)).0)).0 in
            let higher : u.lsn.0 ≤ w.lsn.0 = top u.trans.0 (losing-is_loser log u us e) u (filter (is_by u.trans.0) us) (losing-newest log u us e) in
            absurd (omega arith)
      ]),
    )
      where
        f : filter (is_by t) (u ∷ us) ≡ w ∷ rest
        f = ap (filter (is_by t)) (sym e) ∙ losing-by log t l ∙ q

-- nothing is left to undo where each loser has nothing to undo
pub losing-none : (log : List Record) → ((t : ℕ) → is_loser log t ≡ true → to_undo log t ≡ []) → losing log ≡ []
losing-none log n = go (losing log) refl
  where
    go : (us : List Record) → losing log ≡ us → losing log ≡ []
    go [] e = e
    go (u ∷ us) e = absurd (cc (sym (n u.trans.0 (losing-is_loser log u us e)) ∙ losing-newest log u us e))
