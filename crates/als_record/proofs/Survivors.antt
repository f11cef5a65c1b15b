-- The surviving updates of all transactions together: one more record, and the part of one transaction.
use Rattle.std.proofs.Common.{◌≡◌, ℕ, ◌==◌, Bool, true, false, cond, ◌&&◌, List, [], ◌∷◌, ◌++◌, filter, fold, drop, refl, sym, ap, ◌∙◌, inl, inr, subst, append_assoc, append-nil}
use Rattle.std.specs.List.{AllByRecursion}
use Rattle.std.proofs.lemmas.Bool.{cases_Bool, eqb-true, false≢true}
use Rattle.std.proofs.lemmas.List.Sums.{fold_push}
use Rattle.als_record.specs.declared.record.Body.{Body}
use Rattle.als_record.specs.declared.record.Body.TheVariants.{Update, Compensation, Commit, Rollback, End, BeginCheckpoint, EndCheckpoint, Prepare}
use Rattle.als_record.specs.declared.record.Record.{Record}
use Rattle.als_record.specs.Transactions.{is_transactional, is_update, is_of, is_some_left, has_begun, records_of, to_undo_after, to_undo, without_newest, survivors_after, all_surviving}
use Rattle.als_record.proofs.Records.{to_undo-none, has_begun-own, has_begun-grows}
use Rattle.als_record.proofs.Numbers.{eqb-refl}

-- one more record
pub all_surviving-push : (log : List Record) (r : Record) → all_surviving (log ++ r ∷ []) ≡ survivors_after (all_surviving log) r r.body
unfolding all_surviving
all_surviving-push log r = fold_push (λ left (u : Record). survivors_after left u u.body) [] log r

-- whether a surviving update is of this transaction
abbrev pub is_by : ℕ → Record → Bool
is_by t u = u.trans.0 == t

module _ (t : ℕ) where
  by_without_newest-own : (left : List Record) → filter (is_by t) (without_newest t left) ≡ drop 1 (filter (is_by t) left)
  by_without_newest-own [] = refl
  by_without_newest-own (u ∷ rest) = elim (cases_Bool (u.trans.0 == t)) [
    | inl e ↦ simp e
    | inr e ↦ simp e (by_without_newest-own rest)
  ]

  by_without_newest-other : (s : ℕ) → (s == t) ≡ false → (left : List Record) → filter (is_by t) (without_newest s left) ≡ filter (is_by t) left
  by_without_newest-other s d [] = refl
  by_without_newest-other s d (u ∷ rest) = elim (cases_Bool (u.trans.0 == s)) [
    | inl e ↦ let f : (u.trans.0 == t) ≡ false = ap (λ n. n == t) (eqb-true u.trans.0 s e) ∙ d in simp (e, f)
    | inr e ↦ simp e (ap (λ us. cond (u.trans.0 == t) (u ∷ us) us) (by_without_newest-other s d rest))
  ]

  same_both : (b : Bool) (us : List Record) → us ≡ cond b us us
  same_both true us = refl
  same_both false us = refl

  -- one record's step, seen in one transaction
  step : (left : List Record) (r : Record) (b : Body) → filter (is_by t) (survivors_after left r b) ≡ cond (is_transactional b && (r.trans.0 == t)) (to_undo_after (filter (is_by t) left) r b) (filter (is_by t) left)
  step left r (Update key before after) = refl
  step left r (Compensation undo_next key after) = elim (cases_Bool (r.trans.0 == t)) [
    | inl e ↦ simp e (ap (λ s. filter (is_by t) (without_newest s left)) (eqb-true r.trans.0 t e) ∙ by_without_newest-own left)
    | inr e ↦ simp e (by_without_newest-other r.trans.0 e left)
  ]
  step left r Commit = same_both (r.trans.0 == t) (filter (is_by t) left)
  step left r Rollback = same_both (r.trans.0 == t) (filter (is_by t) left)
  step left r End = same_both (r.trans.0 == t) (filter (is_by t) left)
  step left r BeginCheckpoint = refl
  step left r (EndCheckpoint transactions pages) = refl
  step left r Prepare = same_both (r.trans.0 == t) (filter (is_by t) left)

  along : (left log : List Record) → filter (is_by t) (fold (λ us u. survivors_after us u u.body) left log) ≡ fold (λ us u. to_undo_after us u u.body) (filter (is_by t) left) (filter (is_of t) log)
  along left [] = refl
  along left (r ∷ rest) = along (survivors_after left r r.body) rest ∙ ap (λ us. fold (λ us u. to_undo_after us u u.body) us (filter (is_of t) rest)) (step left r r.body) ∙ onto (is_of t r)
    where
      onto : (b : Bool) → fold (λ us u. to_undo_after us u u.body) (cond b (to_undo_after (filter (is_by t) left) r r.body) (filter (is_by t) left)) (filter (is_of t) rest) ≡ fold (λ us u. to_undo_after us u u.body) (filter (is_by t) left) (cond b (r ∷ filter (is_of t) rest) (filter (is_of t) rest))
      onto true = refl
      onto false = refl

  -- the surviving updates of one transaction are its updates to undo
  pub all_surviving-by : (log : List Record) → filter (is_by t) (all_surviving log) ≡ to_undo log t
  unfolding all_surviving to_undo records_of
  all_surviving-by log = along [] log

-- ---- what holds of each surviving update

-- what each record keeps holds of each log
pub log_induction : (P : List Record → Type 0) → P [] → ((log : List Record) (r : Record) → P log → P (log ++ r ∷ [])) → (log : List Record) → P log
log_induction P start step log = along [] log start
  where
    along : (front rest : List Record) → P front → P (front ++ rest)
    along front [] p = subst P (sym (append-nil front)) p
    along front (r ∷ rest) p = subst P (append_assoc front (r ∷ []) rest) (along (front ++ r ∷ []) rest (step front r p))

pub All-without_newest : (P : Record → Type 0) (t : ℕ) (left : List Record) → AllByRecursion P left → AllByRecursion P (without_newest t left)
All-without_newest P t [] a = tt
All-without_newest P t (u ∷ rest) a = go (u.trans.0 == t) (All-without_newest P t rest a.1)
  where
    go : (b : Bool) → AllByRecursion P (without_newest t rest) → AllByRecursion P (cond b rest (u ∷ without_newest t rest))
    go true k = a.1
    go false k = (a.0, k)

pub All-weaken : (P Q : Record → Type 0) → ((u : Record) → P u → Q u) → (left : List Record) → AllByRecursion P left → AllByRecursion Q left
All-weaken P Q f [] a = tt
All-weaken P Q f (u ∷ rest) a = (f u a.0, All-weaken P Q f rest a.1)

pub all_surviving-nil : all_surviving [] ≡ []
unfolding all_surviving
all_surviving-nil = refl

-- they are updates
pub All-is_update : (log : List Record) → AllByRecursion (λ u. is_update u.body ≡ true) (all_surviving log)
All-is_update log = log_induction (λ l. AllByRecursion (λ u. is_update u.body ≡ true) (all_surviving l)) start more log
  where
    start : AllByRecursion (λ u. is_update u.body ≡ true) (all_surviving [])
    start = rw all_surviving-nil tt

    more : (l : List Record) (r : Record) → AllByRecursion (λ u. is_update u.body ≡ true) (all_surviving l) → AllByRecursion (λ u. is_update u.body ≡ true) (all_surviving (l ++ r ∷ []))
    more l r a = rw (all_surviving-push l r) (go r.body refl)
      where
        go : (b : Body) → r.body ≡ b → AllByRecursion (λ u. is_update u.body ≡ true) (survivors_after (all_surviving l) r b)
        go (Update key before after) e = (ap is_update e, a)
        go (Compensation undo_next key after) e = All-without_newest (λ u. is_update u.body ≡ true) r.trans.0 (all_surviving l) a
        go Commit e = a
        go Rollback e = a
        go End e = a
        go BeginCheckpoint e = a
        go (EndCheckpoint transactions pages) e = a
        go Prepare e = a

-- a surviving update's transaction has begun
pub has_begun-survivor : (log : List Record) (t : ℕ) → is_some_left (to_undo log t) ≡ true → has_begun log t ≡ true
has_begun-survivor log t s = elim (cases_Bool (has_begun log t)) [
  | inl e ↦ e
  | inr e ↦ absurd (false≢true (sym (ap is_some_left (to_undo-none log t e)) ∙ s))
]

pub All-has_begun : (log : List Record) → AllByRecursion (λ u. has_begun log u.trans.0 ≡ true) (all_surviving log)
All-has_begun log = log_induction (λ l. AllByRecursion (λ u. has_begun l u.trans.0 ≡ true) (all_surviving l)) (rw all_surviving-nil tt) more log
  where
    more : (l : List Record) (r : Record) → AllByRecursion (λ u. has_begun l u.trans.0 ≡ true) (all_surviving l) → AllByRecursion (λ u. has_begun (l ++ r ∷ []) u.trans.0 ≡ true) (all_surviving (l ++ r ∷ []))
    more l r a = rw (all_surviving-push l r) (go r.body refl)
      where
        kept : AllByRecursion (λ u. has_begun (l ++ r ∷ []) u.trans.0 ≡ true) (all_surviving l)
        kept = All-weaken (λ u. has_begun l u.trans.0 ≡ true) (λ u. has_begun (l ++ r ∷ []) u.trans.0 ≡ true) (λ u. has_begun-grows l r u.trans.0) (all_surviving l) a

        go : (b : Body) → r.body ≡ b → AllByRecursion (λ u. has_begun (l ++ r ∷ []) u.trans.0 ≡ true) (survivors_after (all_surviving l) r b)
        go (Update key before after) e = (has_begun-own l r r.trans.0 (rw e (eqb-refl r.trans.0)), kept)
        go (Compensation undo_next key after) e = All-without_newest (λ u. has_begun (l ++ r ∷ []) u.trans.0 ≡ true) r.trans.0 (all_surviving l) kept
        go Commit e = kept
        go Rollback e = kept
        go End e = kept
        go BeginCheckpoint e = kept
        go (EndCheckpoint transactions pages) e = kept
        go Prepare e = kept
