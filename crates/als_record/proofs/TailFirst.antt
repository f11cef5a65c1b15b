-- The first record of a tail, which is all that a takeover appends at a time: which one it is, and what comes of it.
use Rattle.std.proofs.Common.{◌≡◌, ℕ, ◌==◌, ◌+◌, ◌<◌, ◌^◌, Bool, true, false, cond, not, ◌&&◌, List, [], ◌∷◌, ◌++◌, filter, take, drop, sum_by, refl, sym, ap, ◌∙◌, inl, inr, subst, arith, lt_trans}
use Rattle.std.specs.List.{list_any, AllByRecursion}
use Rattle.std.proofs.lemmas.Bool.{cases_Bool, eqb-true, eq-eqb, false≢true, and_parts, and_from}
use Rattle.std.proofs.lemmas.List.Sums.{sum_by-cons}
use Rattle.als_record.specs.declared.key.Key.{Key}
use Rattle.als_record.specs.declared.record.Body.{Body}
use Rattle.als_record.specs.declared.record.Body.TheVariants.{Update, Compensation, Commit, Rollback, End, BeginCheckpoint, EndCheckpoint, Prepare}
use Rattle.als_record.specs.declared.record.Record.{Record}
use Rattle.als_record.specs.Spelling.{record_len, IsBody, IsRecord}
use Rattle.als_record.specs.LogText.{end_of, follow_from, IsLog}
use Rattle.als_record.specs.Transactions.{is_transactional, is_update, is_among, transactions, unended, in_doubt, is_unended, is_in_doubt, is_loser, survivors_after, all_surviving, last_lsn}
use Rattle.als_record.specs.Images.{kept}
use Rattle.als_record.specs.Validity.{may_follow, is_valid, IsValidLog}
use Rattle.als_record.specs.Tail.{TailStep, Ends, Undoes, is_finished, ends, undoes, losing, ending, tail_steps, undone, record_for, numbered, tail_of, tail_len, is_undone}
use Rattle.als_record.proofs.Numbers.{is_among-filter, eqb-refl}
use Rattle.als_record.proofs.Records.{loser_parts}
use Rattle.als_record.proofs.Survivors.{all_surviving-push, all_surviving-nil, All-without_newest, log_induction}
use Rattle.als_record.proofs.Unended.{is_among-unended, is_among-ending, All-unended, transactions-push, is_undone-ending, ending-is_undone}
use Rattle.als_record.proofs.Validity.{is_valid-front, is_valid-push, may_follow-admitted, Admitted, Admitted-may_follow}
use Rattle.als_record.proofs.TailSteps.{doubting, tail_of-front, tail_steps-doubts, losing-is_update, is_finished-in_doubt}
use Rattle.als_record.proofs.Takeover.{Steps, tail_steps-first, ending-without_tail}
use Rattle.als_record.proofs.Falling.{losing-none, All-filter}
use Rattle.als_record.proofs.Chain.{Threaded-valid}
use Rattle.als_record.proofs.Places.{transactions-nil}

-- ---- which one

-- the end of the first finished transaction
pub tail_of-ends : (log : List Record) (t : ℕ) (ts : List ℕ) → filter (is_finished log) (unended log) ≡ t ∷ ts → (rest : List Record) × (tail_of log ≡ record_for log (Ends t) ∷ rest)
unfolding tail_of numbered tail_steps
tail_of-ends log t ts e =
    (numbered (log ++ record_for log (Ends t) ∷ []) (ends ts ++ undoes (losing log)), ap (λ xs. numbered log (ends xs ++ undoes (losing log))) e)

-- the compensation of the first of the losers' updates, where no transaction is finished
pub tail_of-undoes : (log : List Record) (u : Record) (us : List Record) → filter (is_finished log) (unended log) ≡ [] → losing log ≡ u ∷ us → (rest : List Record) × (tail_of log ≡ record_for log (Undoes u) ∷ rest)
unfolding tail_of numbered tail_steps undoes
tail_of-undoes log u us e q = (
  numbered (log ++ record_for log (Undoes u) ∷ []) (cond (list_any (λ v. v.trans.0 == u.trans.0) us) (undoes us) (Ends u.trans.0 ∷ undoes us)),
  ap (λ xs. numbered log (ends xs ++ undoes (losing log))) e ∙ ap (λ vs. numbered log (undoes vs)) q,
)

-- none, where a takeover ends no transaction
pub tail_of-none : (log : List Record) → ending log ≡ [] → tail_of log ≡ []
unfolding tail_of numbered tail_steps undoes
tail_of-none log e = ap (λ xs. numbered log (ends xs ++ undoes (losing log))) (unfinished (unended log) (All-unended log)) ∙ ap (λ us. numbered log (undoes us)) (losing-none log (λ t l. absurd (nobody t (loser_parts log t l).0 (loser_parts log t l).2)))
  where
    nobody : (t : ℕ) → is_unended log t ≡ true → is_in_doubt log t ≡ false → ⊥
    nobody t u d = false≢true (ap (λ xs. is_among xs t) (sym e) ∙ is_among-ending log t ∙ rw (u, d) refl)

    unfinished : (ts : List ℕ) → AllByRecursion (λ t. is_unended log t ≡ true) ts → filter (is_finished log) ts ≡ []
    unfinished [] a = refl
    unfinished (t ∷ ts) a = elim (cases_Bool (is_finished log t)) [
      | inl f ↦ absurd (nobody t a.0 (is_finished-in_doubt log t f))
      | inr f ↦ rw f (unfinished ts a.1)
    ]

pub ending-tail_of : (log : List Record) → tail_of log ≡ [] → ending log ≡ []
unfolding tail_of numbered
ending-tail_of log e = ending-without_tail log (none (tail_steps log) e)
  where
    none : (steps : List TailStep) → numbered log steps ≡ [] → steps ≡ []
    none [] e = refl
    none (step ∷ rest) e = absurd (cc e)

-- none exactly where nothing of it is left to append
pub tail_of-undone : (log : List Record) → is_undone log ≡ true → tail_of log ≡ []
tail_of-undone log u = tail_of-none log (is_undone-ending log u)

pub is_undone-tail_of : (log : List Record) → tail_of log ≡ [] → is_undone log ≡ true
is_undone-tail_of log e = ending-is_undone log (ending-tail_of log e)

-- ---- what comes of it

module _ (log : List Record) (r : Record) (rest : List Record) (e : tail_of log ≡ r ∷ rest) where
  -- the tail is the rest
  pub tail_of-next : tail_of (log ++ r ∷ []) ≡ rest
  tail_of-next = ap (λ rs. tail_of (log ++ take 1 rs)) (sym e) ∙ tail_of-front log 1 ∙ ap (drop 1) e

  -- and shorter by the record
  pub tail_len-next : record_len r + tail_len (log ++ r ∷ []) ≡ tail_len log
  unfolding tail_len
  tail_len-next = ap (λ rs. record_len r + sum_by record_len rs) tail_of-next ∙ sym (sum_by-cons record_len r rest) ∙ ap (sum_by record_len) (sym e)

  -- it is the record of the tail's first step
  stepped : (step : TailStep) × (steps : List TailStep) × (tail_steps log ≡ step ∷ steps) × (r ≡ record_for log step)
  unfolding tail_of numbered
  stepped = go (tail_steps log) refl e
    where
      go : (steps : List TailStep) → tail_steps log ≡ steps → numbered log steps ≡ r ∷ rest → (step : TailStep) × (more : List TailStep) × (tail_steps log ≡ step ∷ more) × (r ≡ record_for log step)
      go [] q f = absurd (cc f)
      go (step ∷ more) q f = let g : r ≡ record_for log step = cc f in (step, more, q, g)

  -- who is in doubt stays, with its updates
  pub doubts-next : (in_doubt (log ++ r ∷ []) ≡ in_doubt log) × (doubting (log ++ r ∷ []) ≡ doubting log)
  doubts-next = subst (λ u. (in_doubt (log ++ u ∷ []) ≡ in_doubt log) × (doubting (log ++ u ∷ []) ≡ doubting log)) (sym stepped.3) (tail_steps-doubts log stepped.0 stepped.1 stepped.2)

  module _ (v : is_valid log ≡ true) where
    first : Steps log stepped.0
    first = tail_steps-first log stepped.0 stepped.1 v stepped.2

    pub tail_of-admitted : Admitted log r
    tail_of-admitted = subst (Admitted log) (sym stepped.3) first.may

    -- it may follow
    pub tail_of-may_follow : may_follow log r ≡ true
    tail_of-may_follow = may_follow-admitted log r tail_of-admitted

    pub tail_of-is_valid : is_valid (log ++ r ∷ []) ≡ true
    tail_of-is_valid = is_valid-push log r ∙ and_from (is_valid log) (may_follow log r) v tail_of-may_follow

    -- what a takeover keeps stays
    pub kept-next : (k : Key) → kept (log ++ r ∷ []) k ≡ kept log k
    kept-next k = ap (λ u. kept (log ++ u ∷ []) k) stepped.3 ∙ first.stays k

-- ---- its text

All-push : (P : Record → Type 0) (us : List Record) (r : Record) → AllByRecursion P us → P r → AllByRecursion P (us ++ r ∷ [])
All-push P [] r a p = (p, tt)
All-push P (u ∷ us) r a p = (a.0, All-push P us r a.1 p)

All-front : (P : Record → Type 0) (us : List Record) (r : Record) → AllByRecursion P (us ++ r ∷ []) → AllByRecursion P us × P r
All-front P [] r a = (tt, a.0)
All-front P (u ∷ us) r a = let b : AllByRecursion P us × P r = All-front P us r a.1 in ((a.0, b.0), b.1)

follow_from-push : (at : ℕ) (log : List Record) (r : Record) → follow_from at log ≡ true → r.lsn.0 ≡ at + sum_by record_len log → follow_from at (log ++ r ∷ []) ≡ true
unfolding follow_from
follow_from-push at [] r f e = and_from (r.lsn.0 == at) true (eq-eqb r.lsn.0 at (e ∙ omega arith)) refl
follow_from-push at (u ∷ us) r f e =
    let p : ((u.lsn.0 == at) ≡ true) × (follow_from (at + record_len u) us ≡ true) = and_parts (u.lsn.0 == at) (follow_from (at + record_len u) us) f in
    let c : sum_by record_len (u ∷ us) ≡ record_len u + sum_by record_len us = sum_by-cons record_len u us in
    and_from (u.lsn.0 == at) (follow_from (at + record_len u) (us ++ r ∷ [])) p.0 (follow_from-push (at + record_len u) us r p.1 (omega arith))

-- a record that fits its spelling, at the log's end
pub IsLog-push : (pages : ℕ) (log : List Record) (r : Record) → IsLog pages log → r.lsn.0 ≡ end_of log → IsRecord pages r → IsLog pages (log ++ r ∷ [])
unfolding end_of
IsLog-push pages log r l e p = record { laid_out = follow_from-push 16 log r l.laid_out e; records = All-push (IsRecord pages) log r l.records p }

-- the surviving updates fit their spelling
surviving_fit : (pages : ℕ) (log : List Record) → AllByRecursion (IsRecord pages) log → AllByRecursion (IsRecord pages) (all_surviving log)
surviving_fit pages = log_induction (λ l. AllByRecursion (IsRecord pages) l → AllByRecursion (IsRecord pages) (all_surviving l)) (λ a. rw all_surviving-nil tt) more
  where
    more : (l : List Record) (r : Record) → (AllByRecursion (IsRecord pages) l → AllByRecursion (IsRecord pages) (all_surviving l)) → AllByRecursion (IsRecord pages) (l ++ r ∷ []) → AllByRecursion (IsRecord pages) (all_surviving (l ++ r ∷ []))
    more l r h a = rw (all_surviving-push l r) (go r.body)
      where
        parts : AllByRecursion (IsRecord pages) l × IsRecord pages r
        parts = All-front (IsRecord pages) l r a

        go : (b : Body) → AllByRecursion (IsRecord pages) (survivors_after (all_surviving l) r b)
        go (Update key before after) = (parts.1, h parts.0)
        go (Compensation undo_next key after) = All-without_newest (IsRecord pages) r.trans.0 (all_surviving l) (h parts.0)
        go Commit = h parts.0
        go Rollback = h parts.0
        go End = h parts.0
        go BeginCheckpoint = h parts.0
        go (EndCheckpoint transactions pages) = h parts.0
        go Prepare = h parts.0

-- and so do the transactions' numbers
numbers_fit : (pages : ℕ) (log : List Record) → AllByRecursion (IsRecord pages) log → AllByRecursion (λ t. t < 2 ^ 32) (transactions log)
numbers_fit pages = log_induction (λ l. AllByRecursion (IsRecord pages) l → AllByRecursion (λ t. t < 2 ^ 32) (transactions l)) (λ a. rw transactions-nil tt) more
  where
    push : (xs : List ℕ) (t : ℕ) → AllByRecursion (λ t. t < 2 ^ 32) xs → t < 2 ^ 32 → AllByRecursion (λ t. t < 2 ^ 32) (xs ++ t ∷ [])
    push [] t a p = (p, tt)
    push (x ∷ xs) t a p = (a.0, push xs t a.1 p)

    more : (l : List Record) (r : Record) → (AllByRecursion (IsRecord pages) l → AllByRecursion (λ t. t < 2 ^ 32) (transactions l)) → AllByRecursion (IsRecord pages) (l ++ r ∷ []) → AllByRecursion (λ t. t < 2 ^ 32) (transactions (l ++ r ∷ []))
    more l r h a = rw (transactions-push l r) (go (is_transactional r.body && not (is_among (transactions l) r.trans.0)))
      where
        parts : AllByRecursion (IsRecord pages) l × IsRecord pages r
        parts = All-front (IsRecord pages) l r a

        go : (b : Bool) → AllByRecursion (λ t. t < 2 ^ 32) (cond b (transactions l ++ r.trans.0 ∷ []) (transactions l))
        go true = push (transactions l) r.trans.0 (h parts.0) parts.1.trans
        go false = h parts.0

All-among : (P : ℕ → Type 0) (t : ℕ) (xs : List ℕ) → AllByRecursion P xs → is_among xs t ≡ true → P t
All-among P t [] a e = absurd (false≢true e)
All-among P t (x ∷ rest) a e = elim (cases_Bool (x == t)) [
  | inl y ↦ subst P (eqb-true x t y) a.0
  | inr y ↦ All-among P t rest a.1 (rw y at e)
]

module _ (pages : ℕ) (log : List Record) (v : is_valid log ≡ true) (l : AllByRecursion (IsRecord pages) log) (room : end_of log < 2 ^ 64) where
  low : (t : ℕ) → last_lsn log t < 2 ^ 64
  low t = let b : last_lsn log t < end_of log = (Threaded-valid log v t).last_below in lt_trans b room

  ends_fit : (t : ℕ) → is_unended log t ≡ true → IsRecord pages (record_for log (Ends t))
  unfolding unended
  ends_fit t u = record {
    lsn = room;
    prev = low t;
    trans = All-among (λ x. x < 2 ^ 32) t (transactions log) (numbers_fit pages log l) (and_parts (is_unended log t) (is_among (transactions log) t) (sym (is_among-filter (is_unended log) t (transactions log)) ∙ is_among-unended log t ∙ u)).1;
    body = tt;
  }

  undoes_fit : (u : Record) → is_update u.body ≡ true → IsRecord pages u → IsRecord pages (record_for log (Undoes u))
  undoes_fit u i f = record { lsn = room; prev = low u.trans.0; trans = f.trans; body = go u.body i f.body }
    where
      go : (b : Body) → is_update b ≡ true → IsBody pages b → IsBody pages (undone u.prev b)
      go (Update key before after) e g = (f.prev, g.0, g.1)
      go (Compensation undo_next key after) e g = absurd (false≢true e)
      go Commit e g = absurd (false≢true e)
      go Rollback e g = absurd (false≢true e)
      go End e g = absurd (false≢true e)
      go BeginCheckpoint e g = absurd (false≢true e)
      go (EndCheckpoint transactions pages) e g = absurd (false≢true e)
      go Prepare e g = absurd (false≢true e)

  step_fits : (step : TailStep) (more : List TailStep) → tail_steps log ≡ step ∷ more → IsRecord pages (record_for log step)
  unfolding tail_steps undoes losing
  step_fits step more e = go (filter (is_finished log) (unended log)) refl (losing log) refl e
    where
      go : (ts : List ℕ) → filter (is_finished log) (unended log) ≡ ts → (us : List Record) → losing log ≡ us → ends ts ++ undoes us ≡ step ∷ more → IsRecord pages (record_for log step)
      go (t ∷ ts) p us q f =
          let s : step ≡ Ends t = cc f in
          let u : is_unended log t ≡ true = (and_parts (is_finished log t) (is_unended log t) (ap (λ b. is_finished log t && b) (sym (is_among-unended log t)) ∙ sym (is_among-filter (is_finished log) t (unended log)) ∙ ap (λ xs. is_among xs t) p ∙ rw (eqb-refl t) refl)).1 in
          subst (λ st. IsRecord pages (record_for log st)) (sym s) (ends_fit t u)
      go [] p (u ∷ us) q f =
          let s : step ≡ Undoes u = cc f in
          let fit : AllByRecursion (IsRecord pages) (u ∷ us) = subst (AllByRecursion (IsRecord pages)) q (All-filter (IsRecord pages) (λ v. is_loser log v.trans.0) (all_surviving log) (surviving_fit pages log l)) in
          subst (λ st. IsRecord pages (record_for log st)) (sym s) (undoes_fit u (losing-is_update log u us q) fit.0)
      go [] p [] q f = absurd (cc f)

-- the first record of a tail fits its spelling, where the log is short enough
pub tail_of-IsRecord : (pages : ℕ) (log : List Record) (r : Record) (rest : List Record) → IsValidLog pages log → end_of log < 2 ^ 64 → tail_of log ≡ r ∷ rest → IsRecord pages r
tail_of-IsRecord pages log r rest l room e =
    let s : (step : TailStep) × (steps : List TailStep) × (tail_steps log ≡ step ∷ steps) × (r ≡ record_for log step) = stepped log r rest e in
    subst (IsRecord pages) (sym s.3) (step_fits pages log l.valid l.text.records room s.0 s.1 s.2)

-- so a takeover's log stays one that a text can hold
pub IsValidLog-next : (pages : ℕ) (log : List Record) (r : Record) (rest : List Record) → IsValidLog pages log → end_of log < 2 ^ 64 → tail_of log ≡ r ∷ rest → IsValidLog pages (log ++ r ∷ [])
IsValidLog-next pages log r rest l room e = record {
  text = IsLog-push pages log r l.text (tail_of-admitted log r rest e l.valid).place (tail_of-IsRecord pages log r rest l room e);
  valid = tail_of-is_valid log r rest e l.valid;
}

-- ---- fronts

follow_from-front : (at : ℕ) (log more : List Record) → follow_from at (log ++ more) ≡ true → follow_from at log ≡ true
unfolding follow_from
follow_from-front at [] more f = refl
follow_from-front at (u ∷ us) more f =
    let p : ((u.lsn.0 == at) ≡ true) × (follow_from (at + record_len u) (us ++ more) ≡ true) = and_parts (u.lsn.0 == at) (follow_from (at + record_len u) (us ++ more)) f in
    and_from (u.lsn.0 == at) (follow_from (at + record_len u) us) p.0 (follow_from-front (at + record_len u) us more p.1)

All-take : (P : Record → Type 0) (log more : List Record) → AllByRecursion P (log ++ more) → AllByRecursion P log
All-take P [] more a = tt
All-take P (u ∷ us) more a = (a.0, All-take P us more a.1)

-- each front of a valid log is a valid log
pub IsValidLog-front : (pages : ℕ) (log more : List Record) → IsValidLog pages (log ++ more) → IsValidLog pages log
IsValidLog-front pages log more l = record {
  text = record { laid_out = follow_from-front 16 log more l.text.laid_out; records = All-take (IsRecord pages) log more l.text.records };
  valid = is_valid-front log more l.valid;
}

-- and a valid log with one more record
pub IsValidLog-push : (pages : ℕ) (log : List Record) (r : Record) → IsValidLog pages log → may_follow log r ≡ true → IsRecord pages r → IsValidLog pages (log ++ r ∷ [])
IsValidLog-push pages log r l m p = record {
  text = IsLog-push pages log r l.text (Admitted-may_follow log r m).place p;
  valid = is_valid-push log r ∙ and_from (is_valid log) (may_follow log r) l.valid m;
}
