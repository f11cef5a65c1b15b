-- What becomes of a transaction, seen through its records, with one more record in the log: its own, or another's.
use Rattle.std.proofs.Common.{◌≡◌, ℕ, Bool, true, false, cond, not, ◌&&◌, ◌||◌, List, [], ◌∷◌, ◌++◌, filter, fold, drop, take, length, reverse, inl, inr, refl, sym, ap, ◌∙◌, append-nil, length-append, add-sub_cancel, ◌-◌}
use Rattle.std.specs.List.{list_any}
use Rattle.std.proofs.lemmas.List.Elements.{filter-append}
use Rattle.std.proofs.lemmas.List.Folds.{list_any-append}
use Rattle.std.proofs.lemmas.List.Sums.{fold_push}
use Rattle.std.proofs.lemmas.List.{reverse-append, take_at}
use Rattle.std.proofs.lemmas.Bool.{cases_Bool, false≢true, and_parts, not-true}
use Rattle.als_record.specs.declared.record.Body.{Body}
use Rattle.als_record.specs.declared.record.Body.TheVariants.{Update, Compensation, Commit, Rollback, End, BeginCheckpoint, EndCheckpoint, Prepare}
use Rattle.als_record.specs.declared.record.Record.{Record}
use Rattle.als_record.specs.Transactions.{is_update, is_compensation, is_commit, is_rollback, is_end, is_prepare, is_of, records_of, to_undo_after, to_undo, surviving, is_some_left, has_begun, is_committed, has_rollback, has_prepare, has_ended, is_unended, is_open, is_in_doubt, is_loser, last_lsn, undo_next_after, undo_next_of}

-- ---- who is open, in doubt, a loser

-- an open transaction is a loser or in doubt
pub is_open-is : (log : List Record) (t : ℕ) → is_open log t ≡ (is_loser log t || is_in_doubt log t)
unfolding is_open is_loser is_in_doubt
is_open-is log t = go (is_unended log t) (is_committed log t) (has_prepare log t) (has_rollback log t)
  where
    go : (u c p h : Bool) → (u && not c) ≡ ((u && not c && not (u && p && not c && not h)) || (u && p && not c && not h))
    go true true true h = refl
    go true true false h = refl
    go true false true true = refl
    go true false true false = refl
    go true false false h = refl
    go false c p h = refl

pub loser_parts : (log : List Record) (t : ℕ) → is_loser log t ≡ true → (is_unended log t ≡ true) × (is_committed log t ≡ false) × (is_in_doubt log t ≡ false)
unfolding is_loser
loser_parts log t l =
    let p : ((is_unended log t && not (is_committed log t)) ≡ true) × (not (is_in_doubt log t) ≡ true) = and_parts (is_unended log t && not (is_committed log t)) (not (is_in_doubt log t)) l in
    let q : (is_unended log t ≡ true) × (not (is_committed log t) ≡ true) = and_parts (is_unended log t) (not (is_committed log t)) p.0 in
    (q.0, not-true (is_committed log t) q.1, not-true (is_in_doubt log t) p.1)

pub is_loser-from : (log : List Record) (t : ℕ) → is_unended log t ≡ true → is_committed log t ≡ false → is_in_doubt log t ≡ false → is_loser log t ≡ true
unfolding is_loser
is_loser-from log t u c d = rw (u, c, d) refl

pub in_doubt_parts : (log : List Record) (t : ℕ) → is_in_doubt log t ≡ true → (is_unended log t ≡ true) × (has_prepare log t ≡ true) × (is_committed log t ≡ false) × (has_rollback log t ≡ false)
unfolding is_in_doubt
in_doubt_parts log t d =
    let p : ((is_unended log t && has_prepare log t && not (is_committed log t)) ≡ true) × (not (has_rollback log t) ≡ true) = and_parts (is_unended log t && has_prepare log t && not (is_committed log t)) (not (has_rollback log t)) d in
    let q : ((is_unended log t && has_prepare log t) ≡ true) × (not (is_committed log t) ≡ true) = and_parts (is_unended log t && has_prepare log t) (not (is_committed log t)) p.0 in
    let s : (is_unended log t ≡ true) × (has_prepare log t ≡ true) = and_parts (is_unended log t) (has_prepare log t) q.0 in
    (s.0, s.1, not-true (is_committed log t) q.1, not-true (has_rollback log t) p.1)

-- one that has committed is not in doubt, nor is one that is not unended
pub is_in_doubt-committed : (log : List Record) (t : ℕ) → is_committed log t ≡ true → is_in_doubt log t ≡ false
unfolding is_in_doubt
is_in_doubt-committed log t c = rw c (go (is_unended log t && has_prepare log t) (not (has_rollback log t)))
  where
    go : (a b : Bool) → (a && false && b) ≡ false
    go true b = refl
    go false b = refl

pub is_open-over : (log : List Record) (t : ℕ) → is_unended log t ≡ false → is_open log t ≡ false
unfolding is_open
is_open-over log t u = rw u refl

pub is_in_doubt-over : (log : List Record) (t : ℕ) → is_unended log t ≡ false → is_in_doubt log t ≡ false
unfolding is_in_doubt
is_in_doubt-over log t u = rw u refl

module _ (log : List Record) (r : Record) (t : ℕ) where
  pub records_of-own : is_of t r ≡ true → records_of (log ++ r ∷ []) t ≡ records_of log t ++ r ∷ []
  unfolding records_of
  records_of-own own = filter-append (is_of t) log (r ∷ []) ∙ ap (λ b. filter (is_of t) log ++ cond b (r ∷ []) []) own

  pub records_of-other : is_of t r ≡ false → records_of (log ++ r ∷ []) t ≡ records_of log t
  unfolding records_of
  records_of-other other = filter-append (is_of t) log (r ∷ []) ∙ ap (λ b. filter (is_of t) log ++ cond b (r ∷ []) []) other ∙ append-nil (filter (is_of t) log)

  -- ---- another transaction's record, or a checkpoint's: nothing changes

  module _ (other : is_of t r ≡ false) where
    pub to_undo-other : to_undo (log ++ r ∷ []) t ≡ to_undo log t
    unfolding to_undo
    to_undo-other = ap (fold (λ left u. to_undo_after left u u.body) []) (records_of-other other)

    pub surviving-other : surviving (log ++ r ∷ []) t ≡ surviving log t
    unfolding surviving
    surviving-other = ap reverse to_undo-other

    pub has_begun-other : has_begun (log ++ r ∷ []) t ≡ has_begun log t
    unfolding has_begun
    has_begun-other = ap is_some_left (records_of-other other)

    pub is_committed-other : is_committed (log ++ r ∷ []) t ≡ is_committed log t
    unfolding is_committed
    is_committed-other = ap (list_any (λ u. is_commit u.body)) (records_of-other other)

    pub has_rollback-other : has_rollback (log ++ r ∷ []) t ≡ has_rollback log t
    unfolding has_rollback
    has_rollback-other = ap (list_any (λ u. is_rollback u.body)) (records_of-other other)

    pub has_prepare-other : has_prepare (log ++ r ∷ []) t ≡ has_prepare log t
    unfolding has_prepare
    has_prepare-other = ap (list_any (λ u. is_prepare u.body)) (records_of-other other)

    pub has_ended-other : has_ended (log ++ r ∷ []) t ≡ has_ended log t
    unfolding has_ended
    has_ended-other = ap (list_any (λ u. is_end u.body)) (records_of-other other)

    pub is_unended-other : is_unended (log ++ r ∷ []) t ≡ is_unended log t
    unfolding is_unended
    is_unended-other = cc (has_begun-other, has_ended-other)

    pub is_open-other : is_open (log ++ r ∷ []) t ≡ is_open log t
    unfolding is_open
    is_open-other = cc (is_unended-other, is_committed-other)

    pub is_in_doubt-other : is_in_doubt (log ++ r ∷ []) t ≡ is_in_doubt log t
    unfolding is_in_doubt
    is_in_doubt-other = cc (is_unended-other, has_prepare-other, is_committed-other, has_rollback-other)

    pub is_loser-other : is_loser (log ++ r ∷ []) t ≡ is_loser log t
    unfolding is_loser
    is_loser-other = cc (is_unended-other, is_committed-other, is_in_doubt-other)

    pub last_lsn-other : last_lsn (log ++ r ∷ []) t ≡ last_lsn log t
    unfolding last_lsn
    last_lsn-other = ap (fold (λ last u. u.lsn.0) 0) (records_of-other other)

    pub undo_next_of-other : undo_next_of (log ++ r ∷ []) t ≡ undo_next_of log t
    unfolding undo_next_of
    undo_next_of-other = ap (fold (λ next u. undo_next_after next u.lsn.0 u.body) 0) (records_of-other other)

  -- ---- its own record

  is_some_left-push : (rs : List Record) → is_some_left (rs ++ r ∷ []) ≡ true
  is_some_left-push [] = refl
  is_some_left-push (u ∷ rest) = refl

  or-false : (b : Bool) → (b || false) ≡ b
  or-false true = refl
  or-false false = refl

  module _ (own : is_of t r ≡ true) where
    pub to_undo-own : to_undo (log ++ r ∷ []) t ≡ to_undo_after (to_undo log t) r r.body
    unfolding to_undo
    to_undo-own = ap (fold (λ left u. to_undo_after left u u.body) []) (records_of-own own) ∙ fold_push (λ left (u : Record). to_undo_after left u u.body) [] (records_of log t) r

    pub has_begun-own : has_begun (log ++ r ∷ []) t ≡ true
    unfolding has_begun
    has_begun-own = ap is_some_left (records_of-own own) ∙ is_some_left-push (records_of log t)

    pub is_committed-own : is_committed (log ++ r ∷ []) t ≡ (is_committed log t || is_commit r.body)
    unfolding is_committed
    is_committed-own = ap (list_any (λ u. is_commit u.body)) (records_of-own own) ∙ list_any-append (λ (u : Record). is_commit u.body) (records_of log t) (r ∷ []) ∙ ap (λ b. list_any (λ u. is_commit u.body) (records_of log t) || b) (or-false (is_commit r.body))

    pub has_rollback-own : has_rollback (log ++ r ∷ []) t ≡ (has_rollback log t || is_rollback r.body)
    unfolding has_rollback
    has_rollback-own = ap (list_any (λ u. is_rollback u.body)) (records_of-own own) ∙ list_any-append (λ (u : Record). is_rollback u.body) (records_of log t) (r ∷ []) ∙ ap (λ b. list_any (λ u. is_rollback u.body) (records_of log t) || b) (or-false (is_rollback r.body))

    pub has_prepare-own : has_prepare (log ++ r ∷ []) t ≡ (has_prepare log t || is_prepare r.body)
    unfolding has_prepare
    has_prepare-own = ap (list_any (λ u. is_prepare u.body)) (records_of-own own) ∙ list_any-append (λ (u : Record). is_prepare u.body) (records_of log t) (r ∷ []) ∙ ap (λ b. list_any (λ u. is_prepare u.body) (records_of log t) || b) (or-false (is_prepare r.body))

    pub has_ended-own : has_ended (log ++ r ∷ []) t ≡ (has_ended log t || is_end r.body)
    unfolding has_ended
    has_ended-own = ap (list_any (λ u. is_end u.body)) (records_of-own own) ∙ list_any-append (λ (u : Record). is_end u.body) (records_of log t) (r ∷ []) ∙ ap (λ b. list_any (λ u. is_end u.body) (records_of log t) || b) (or-false (is_end r.body))

    pub last_lsn-own : last_lsn (log ++ r ∷ []) t ≡ r.lsn.0
    unfolding last_lsn
    last_lsn-own = ap (fold (λ last u. u.lsn.0) 0) (records_of-own own) ∙ fold_push (λ last (u : Record). u.lsn.0) 0 (records_of log t) r

    pub undo_next_of-own : undo_next_of (log ++ r ∷ []) t ≡ undo_next_after (undo_next_of log t) r.lsn.0 r.body
    unfolding undo_next_of
    undo_next_of-own = ap (fold (λ next u. undo_next_after next u.lsn.0 u.body) 0) (records_of-own own) ∙ fold_push (λ next (u : Record). undo_next_after next u.lsn.0 u.body) 0 (records_of log t) r

    pub is_unended-own : is_unended (log ++ r ∷ []) t ≡ not (has_ended log t || is_end r.body)
    unfolding is_unended
    is_unended-own = cc (has_begun-own, has_ended-own)

    pub is_open-own : is_open (log ++ r ∷ []) t ≡ (not (has_ended log t || is_end r.body) && not (is_committed log t || is_commit r.body))
    unfolding is_open
    is_open-own = cc (is_unended-own, is_committed-own)

    pub is_in_doubt-own : is_in_doubt (log ++ r ∷ []) t ≡ (not (has_ended log t || is_end r.body) && (has_prepare log t || is_prepare r.body) && not (is_committed log t || is_commit r.body) && not (has_rollback log t || is_rollback r.body))
    unfolding is_in_doubt
    is_in_doubt-own = cc (is_unended-own, has_prepare-own, is_committed-own, has_rollback-own)

    -- a record that neither decides nor ends leaves it in doubt, or not
    pub is_in_doubt-stays : has_ended log t ≡ false → has_begun log t ≡ true → is_end r.body ≡ false → is_prepare r.body ≡ false → is_commit r.body ≡ false → is_rollback r.body ≡ false → is_in_doubt (log ++ r ∷ []) t ≡ is_in_doubt log t
    unfolding is_in_doubt is_unended
    is_in_doubt-stays h b e p c k =
        is_in_doubt-own ∙ rw (e, p, c, k, h, b, or-false (has_prepare log t), or-false (is_committed log t), or-false (has_rollback log t)) refl

    -- an update is put behind the surviving ones, a compensation takes the last one away
    pub surviving-own_update : is_update r.body ≡ true → surviving (log ++ r ∷ []) t ≡ surviving log t ++ r ∷ []
    unfolding surviving
    surviving-own_update e = ap reverse (to_undo-own ∙ pushed r.body e) ∙ reverse-append (r ∷ []) (to_undo log t)
      where
        pushed : (b : Body) → is_update b ≡ true → to_undo_after (to_undo log t) r b ≡ r ∷ to_undo log t
        pushed (Update key before after) _ = refl
        pushed (Compensation undo_next key after) e = absurd (false≢true e)
        pushed Commit e = absurd (false≢true e)
        pushed Rollback e = absurd (false≢true e)
        pushed End e = absurd (false≢true e)
        pushed BeginCheckpoint e = absurd (false≢true e)
        pushed (EndCheckpoint transactions pages) e = absurd (false≢true e)
        pushed Prepare e = absurd (false≢true e)

    pub surviving-own_compensation : is_compensation r.body ≡ true → surviving (log ++ r ∷ []) t ≡ take (length (surviving log t) - 1) (surviving log t)
    unfolding surviving
    surviving-own_compensation e = ap reverse (to_undo-own ∙ popped r.body e) ∙ shorter (to_undo log t)
      where
        popped : (b : Body) → is_compensation b ≡ true → to_undo_after (to_undo log t) r b ≡ drop 1 (to_undo log t)
        popped (Compensation undo_next key after) _ = refl
        popped (Update key before after) e = absurd (false≢true e)
        popped Commit e = absurd (false≢true e)
        popped Rollback e = absurd (false≢true e)
        popped End e = absurd (false≢true e)
        popped BeginCheckpoint e = absurd (false≢true e)
        popped (EndCheckpoint transactions pages) e = absurd (false≢true e)
        popped Prepare e = absurd (false≢true e)

        shorter : (left : List Record) → reverse (drop 1 left) ≡ take (length (reverse left) - 1) (reverse left)
        shorter [] = refl
        shorter (u ∷ rest) =
            let e : reverse (u ∷ rest) ≡ reverse rest ++ u ∷ [] = reverse-append (u ∷ []) rest in
            rw e (rw (length-append, add-sub_cancel) (sym (take_at (reverse rest) (u ∷ []) (length (reverse rest)) refl)))

-- ---- a transaction that has not begun has nothing

module _ (log : List Record) (t : ℕ) (n : has_begun log t ≡ false) where
  pub records_of-none : records_of log t ≡ []
  unfolding has_begun
  records_of-none = empty (records_of log t) n
    where
      empty : (rs : List Record) → is_some_left rs ≡ false → rs ≡ []
      empty [] _ = refl
      empty (u ∷ rest) e = absurd (false≢true (sym e))

  pub to_undo-none : to_undo log t ≡ []
  unfolding to_undo
  to_undo-none = ap (fold (λ left u. to_undo_after left u u.body) []) records_of-none

  pub is_committed-none : is_committed log t ≡ false
  unfolding is_committed
  is_committed-none = ap (list_any (λ u. is_commit u.body)) records_of-none

  pub has_rollback-none : has_rollback log t ≡ false
  unfolding has_rollback
  has_rollback-none = ap (list_any (λ u. is_rollback u.body)) records_of-none

  pub has_prepare-none : has_prepare log t ≡ false
  unfolding has_prepare
  has_prepare-none = ap (list_any (λ u. is_prepare u.body)) records_of-none

  pub has_ended-none : has_ended log t ≡ false
  unfolding has_ended
  has_ended-none = ap (list_any (λ u. is_end u.body)) records_of-none

  pub is_unended-none : is_unended log t ≡ false
  unfolding is_unended
  is_unended-none = rw n refl

  pub is_open-none : is_open log t ≡ false
  unfolding is_open
  is_open-none = rw is_unended-none refl

  pub is_in_doubt-none : is_in_doubt log t ≡ false
  unfolding is_in_doubt
  is_in_doubt-none = rw is_unended-none refl

  pub undo_next_of-none : undo_next_of log t ≡ 0
  unfolding undo_next_of
  undo_next_of-none = ap (fold (λ next u. undo_next_after next u.lsn.0 u.body) 0) records_of-none

-- an unended transaction has begun and has not ended
pub has_begun-unended : (log : List Record) (t : ℕ) → is_unended log t ≡ true → has_begun log t ≡ true
unfolding is_unended
has_begun-unended log t u = (and_parts (has_begun log t) (not (has_ended log t)) u).0

pub has_ended-unended : (log : List Record) (t : ℕ) → is_unended log t ≡ true → has_ended log t ≡ false
unfolding is_unended
has_ended-unended log t u = not-true (has_ended log t) (and_parts (has_begun log t) (not (has_ended log t)) u).1

-- ---- what has happened stays

grows : (log : List Record) (r : Record) (t : ℕ) (f : List Record → ℕ → Bool) (b : Bool) → (is_of t r ≡ true → f (log ++ r ∷ []) t ≡ (f log t || b)) → (is_of t r ≡ false → f (log ++ r ∷ []) t ≡ f log t) → f log t ≡ true → f (log ++ r ∷ []) t ≡ true
grows log r t f b own other e = elim (cases_Bool (is_of t r)) [
  | inl o ↦ own o ∙ rw e refl
  | inr o ↦ other o ∙ e
]

pub has_begun-grows : (log : List Record) (r : Record) (t : ℕ) → has_begun log t ≡ true → has_begun (log ++ r ∷ []) t ≡ true
has_begun-grows log r t e = elim (cases_Bool (is_of t r)) [
  | inl o ↦ has_begun-own log r t o
  | inr o ↦ has_begun-other log r t o ∙ e
]

pub is_committed-grows : (log : List Record) (r : Record) (t : ℕ) → is_committed log t ≡ true → is_committed (log ++ r ∷ []) t ≡ true
is_committed-grows log r t = grows log r t is_committed (is_commit r.body) (is_committed-own log r t) (is_committed-other log r t)

pub has_ended-grows : (log : List Record) (r : Record) (t : ℕ) → has_ended log t ≡ true → has_ended (log ++ r ∷ []) t ≡ true
has_ended-grows log r t = grows log r t has_ended (is_end r.body) (has_ended-own log r t) (has_ended-other log r t)

pub has_begun-ended : (log : List Record) (t : ℕ) → has_ended log t ≡ true → has_begun log t ≡ true
has_begun-ended log t h = elim (cases_Bool (has_begun log t)) [
  | inl e ↦ e
  | inr e ↦ absurd (false≢true (sym (has_ended-none log t e) ∙ h))
]
