-- What each valid log keeps: a key has what stands there, updates are held apart, and only the committed end with updates.
use Rattle.std.proofs.Common.{◌≡◌, ℕ, ◌==◌, ◌≤◌, nat_le, Bool, true, false, cond, not, ◌&&◌, ◌||◌, List, [], ◌∷◌, ◌++◌, filter, find, Option, Some, None, option_map, refl, sym, ap, ◌∙◌, inl, inr, subst, arith}
use Rattle.std.specs.List.{AllByRecursion}
use Rattle.std.proofs.lemmas.Bool.{cases_Bool, eqb-true, false≢true, and_parts, or_parts, not-true, not-false, le-leb, or_left, or_right, or_cases}
use Rattle.als_record.specs.declared.lsn.Lsn.{Lsn}
use Rattle.als_record.specs.declared.key.Key.{Key}
use Rattle.als_record.specs.declared.record.Body.{Body}
use Rattle.als_record.specs.declared.record.Body.TheVariants.{Update, Compensation, Commit, Rollback, End, BeginCheckpoint, EndCheckpoint, Prepare}
use Rattle.als_record.specs.declared.record.Record.{Record}
use Rattle.als_record.specs.Spelling.{Image}
use Rattle.als_record.specs.Pages.{change_in}
use Rattle.als_record.specs.Transactions.{is_transactional, is_update, is_compensation, is_end, is_decision, is_of, records_of, to_undo_after, to_undo, is_some_left, is_committed, has_rollback, has_begun, has_ended, is_unended, is_open, is_in_doubt, without_newest, survivors_after, all_surviving, greatest_trans}
use Rattle.als_record.specs.Images.{same_key, same_image, image_now, is_update_at, image_before, image_written, image_of_found}
use Rattle.als_record.specs.Validity.{old_transaction, wrong_state, is_forward, undoes_newest, wrong_compensation, holder, held_by, saw_now, before_image, is_valid}
use Rattle.als_record.proofs.Records.{to_undo-own, to_undo-other, has_begun-other, has_ended-own, has_ended-other, is_committed-grows, has_ended-grows, has_ended-unended, has_begun-ended}
use Rattle.als_record.proofs.Survivors.{is_by, all_surviving-push, all_surviving-by, All-weaken, All-has_begun, has_begun-survivor}
use Rattle.als_record.proofs.Unended.{greatest_trans-push}
use Rattle.als_record.proofs.Images.{image_with, image_now-push}
use Rattle.als_record.proofs.Validity.{Admitted, valid_induction}
use Rattle.als_record.proofs.Standing.{same_key-true, same_image-true, is_update_at-same, standing, Chained, Covers, standing-undone, standing-kept, Chained-undone, Covers-without_newest, Covers-grows}

-- a transaction whose updates stay: committed, or ended
unfoldable pub is_closed : List Record → ℕ → Bool
is_closed log t = is_committed log t || has_ended log t

-- what each record keeps
pub record Sound (log : List Record) : Type 0 where
  pub now : (k : Key) → image_now log k ≡ standing (all_surviving log) k
  pub chained : Chained (all_surviving log)
  pub covers : Covers (is_closed log) (all_surviving log)
  pub settled : (t : ℕ) → is_some_left (to_undo log t) ≡ true → has_ended log t ≡ true → is_committed log t ≡ true
  pub below : (t : ℕ) → has_begun log t ≡ true → t ≤ greatest_trans log

pub is_closed-grows : (log : List Record) (r : Record) (t : ℕ) → is_closed log t ≡ true → is_closed (log ++ r ∷ []) t ≡ true
unfolding is_closed
is_closed-grows log r t e = elim (or_cases (is_committed log t) (has_ended log t) e) [
  | inl c ↦ or_left (is_committed (log ++ r ∷ []) t) (has_ended (log ++ r ∷ []) t) (is_committed-grows log r t c)
  | inr h ↦ or_right (is_committed (log ++ r ∷ []) t) (has_ended (log ++ r ∷ []) t) (has_ended-grows log r t h)
]

-- a transaction that has begun is a loser or closed
pub is_closed-not_open : (log : List Record) (t : ℕ) → has_begun log t ≡ true → is_open log t ≡ false → is_closed log t ≡ true
unfolding is_closed is_open is_unended
is_closed-not_open log t b l = go (is_committed log t) (has_ended log t) (rw b at l)
  where
    go : (c h : Bool) → (not h && not c) ≡ false → (c || h) ≡ true
    go true h e = refl
    go false true e = refl
    go false false e = absurd (false≢true (sym e))

pub is_closed-open : (log : List Record) (t : ℕ) → is_open log t ≡ true → is_closed log t ≡ false
unfolding is_closed is_open is_unended
is_closed-open log t l =
    let p : ((has_begun log t && not (has_ended log t)) ≡ true) × (not (is_committed log t) ≡ true) = and_parts _ _ l in
    let q : (has_begun log t ≡ true) × (not (has_ended log t) ≡ true) = and_parts _ _ p.0 in
    rw (not-true (is_committed log t) p.1, not-true (has_ended log t) q.1) refl

find-none : (p : Record → Bool) (u : Record) (rest : List Record) → find p (u ∷ rest) ≡ None → (p u ≡ false) × (find p rest ≡ None)
find-none p u rest e = elim (cases_Bool (p u)) [
  | inl y ↦ let f : ◌≡◌ {A = Option Record} (Some u) None = (rw y at e) in absurd (cc f)
  | inr y ↦ (y, (rw y at e))
]

module _ (log : List Record) (r : Record) (s : Sound log) (a : Admitted log r) where
  -- a transaction that has begun goes on only while it is unended
  pub goes_on : is_transactional r.body ≡ true → has_begun log r.trans.0 ≡ true → is_unended log r.trans.0 ≡ true
  unfolding old_transaction
  goes_on w b = elim (cases_Bool (is_unended log r.trans.0)) [
    | inl e ↦ e
    | inr e ↦
        let l : nat_le r.trans.0 (greatest_trans log) ≡ true = le-leb r.trans.0 (greatest_trans log) (s.below r.trans.0 b) in
        let f : (is_transactional r.body && not (is_unended log r.trans.0) && nat_le r.trans.0 (greatest_trans log)) ≡ true = rw (w, e, l) refl in
        absurd (false≢true (sym a.old ∙ f))
  ]

  -- none of the four reasons of cause 10
  pub states : (is_committed log r.trans.0 && not (is_end r.body) ≡ false) × ((has_rollback log r.trans.0 && not (is_committed log r.trans.0) && is_forward r.body) ≡ false) × ((is_in_doubt log r.trans.0 && not (is_decision r.body)) ≡ false) × ((is_end r.body && not (is_committed log r.trans.0) && is_some_left (to_undo log r.trans.0)) ≡ false)
  unfolding wrong_state
  states =
      let p : ((is_committed log r.trans.0 && not (is_end r.body)) || (has_rollback log r.trans.0 && not (is_committed log r.trans.0) && is_forward r.body) || (is_in_doubt log r.trans.0 && not (is_decision r.body)) ≡ false) × ((is_end r.body && not (is_committed log r.trans.0) && is_some_left (to_undo log r.trans.0)) ≡ false) = or_parts _ _ a.state in
      let q : ((is_committed log r.trans.0 && not (is_end r.body)) || (has_rollback log r.trans.0 && not (is_committed log r.trans.0) && is_forward r.body) ≡ false) × ((is_in_doubt log r.trans.0 && not (is_decision r.body)) ≡ false) = or_parts _ _ p.0 in
      let t : ((is_committed log r.trans.0 && not (is_end r.body)) ≡ false) × ((has_rollback log r.trans.0 && not (is_committed log r.trans.0) && is_forward r.body) ≡ false) = or_parts _ _ q.0 in
      (t.0, t.1, q.1, p.1)

  -- a committed transaction only ends
  pub only_ends : is_end r.body ≡ false → is_committed log r.trans.0 ≡ false
  only_ends e = elim (cases_Bool (is_committed log r.trans.0)) [
    | inr c ↦ c
    | inl c ↦ absurd (false≢true (sym states.0 ∙ rw (c, e) refl))
  ]

  -- one in doubt goes on by its decision alone
  pub only_decides : is_decision r.body ≡ false → is_in_doubt log r.trans.0 ≡ false
  only_decides e = elim (cases_Bool (is_in_doubt log r.trans.0)) [
    | inr d ↦ d
    | inl d ↦ absurd (false≢true (sym states.2 ∙ rw (d, e) refl))
  ]

  -- what is not committed ends with nothing to undo
  pub ends_clean : is_end r.body ≡ true → is_committed log r.trans.0 ≡ false → is_some_left (to_undo log r.trans.0) ≡ false
  ends_clean e c = elim (cases_Bool (is_some_left (to_undo log r.trans.0))) [
    | inr l ↦ l
    | inl l ↦ absurd (false≢true (sym states.3 ∙ rw (e, c, l) refl))
  ]

  -- ---- the transactions

  below-next : (t : ℕ) → has_begun (log ++ r ∷ []) t ≡ true → t ≤ greatest_trans (log ++ r ∷ [])
  below-next t b = rw (greatest_trans-push log r) (elim (cases_Bool (is_of t r)) [
    | inl o ↦ let q : r.trans.0 ≡ t = eqb-true r.trans.0 t (and_parts (is_transactional r.body) (r.trans.0 == t) o).1 in omega arith
    | inr o ↦ let h : t ≤ greatest_trans log = s.below t (sym (has_begun-other log r t o) ∙ b) in omega arith
  ])

  some_left-before : (b : Body) (left : List Record) → is_update b ≡ false → is_some_left (to_undo_after left r b) ≡ true → is_some_left left ≡ true
  some_left-before (Update key before after) left u e = absurd (false≢true (sym u))
  some_left-before (Compensation undo_next key after) [] u e = absurd (false≢true e)
  some_left-before (Compensation undo_next key after) (v ∷ rest) u e = refl
  some_left-before Commit left u e = e
  some_left-before Rollback left u e = e
  some_left-before End left u e = e
  some_left-before BeginCheckpoint left u e = e
  some_left-before (EndCheckpoint transactions pages) left u e = e
  some_left-before Prepare left u e = e

  end-is_update : (b : Body) → is_end b ≡ true → is_update b ≡ false
  end-is_update (Update key before after) e = absurd (false≢true e)
  end-is_update (Compensation undo_next key after) e = refl
  end-is_update Commit e = refl
  end-is_update Rollback e = refl
  end-is_update End e = refl
  end-is_update BeginCheckpoint e = refl
  end-is_update (EndCheckpoint transactions pages) e = refl
  end-is_update Prepare e = refl

  had : (h : Bool) → (h || false) ≡ true → h ≡ true
  had true e = refl
  had false e = e

  settled-next : (t : ℕ) → is_some_left (to_undo (log ++ r ∷ []) t) ≡ true → has_ended (log ++ r ∷ []) t ≡ true → is_committed (log ++ r ∷ []) t ≡ true
  settled-next t l h = elim (cases_Bool (is_of t r)) [
    | inr o ↦ is_committed-grows log r t (s.settled t (ap is_some_left (sym (to_undo-other log r t o)) ∙ l) (sym (has_ended-other log r t o) ∙ h))
    | inl o ↦ mine o (eqb-true r.trans.0 t (and_parts (is_transactional r.body) (r.trans.0 == t) o).1) (and_parts (is_transactional r.body) (r.trans.0 == t) o).0
  ]
    where
      mine : is_of t r ≡ true → r.trans.0 ≡ t → is_transactional r.body ≡ true → is_committed (log ++ r ∷ []) t ≡ true
      mine o q w = elim (cases_Bool (is_end r.body)) [
        | inl e ↦ elim (cases_Bool (is_committed log t)) [
          | inl c ↦ is_committed-grows log r t c
          | inr c ↦
              let before : is_some_left (to_undo log t) ≡ true = some_left-before r.body (to_undo log t) (end-is_update r.body e) (ap is_some_left (sym (to_undo-own log r t o)) ∙ l) in
              absurd (false≢true (sym (ends_clean e (ap (is_committed log) q ∙ c)) ∙ ap (λ x. is_some_left (to_undo log x)) q ∙ before))
        ]
        | inr e ↦
            let ended : has_ended log t ≡ true = had (has_ended log t) (sym (has_ended-own log r t o ∙ ap (λ b. has_ended log t || b) e) ∙ h) in
            let open_ : is_unended log r.trans.0 ≡ true = goes_on w (ap (has_begun log) q ∙ has_begun-ended log t ended) in
            absurd (false≢true (sym (has_ended-unended log r.trans.0 open_) ∙ ap (has_ended log) q ∙ ended))
      ]

  -- ---- the updates

  quiet : (b : Body) → is_update b ≡ false → is_compensation b ≡ false → change_in r b ≡ None
  quiet (Update key before after) u c = absurd (false≢true (sym u))
  quiet (Compensation undo_next key after) u c = absurd (false≢true (sym c))
  quiet Commit u c = refl
  quiet Rollback u c = refl
  quiet End u c = refl
  quiet BeginCheckpoint u c = refl
  quiet (EndCheckpoint transactions pages) u c = refl
  quiet Prepare u c = refl

  -- ---- an update

  module _ (key : Key) (before after : Image) (b : r.body ≡ Update key before after) where
    update-saw : before ≡ image_now log key
    unfolding before_image
    update-saw = same_image-true before (image_now log key) (ap (saw_now log) (sym b) ∙ not-false (saw_now log r.body) a.image)

    update-transactional : is_transactional r.body ≡ true
    update-transactional = rw b refl

    -- another transaction's update of this key is closed
    update-covers : (us : List Record) → AllByRecursion (λ u. has_begun log u.trans.0 ≡ true) us → find (λ u. is_update_at key u.body && not (u.trans.0 == r.trans.0) && is_open log u.trans.0) us ≡ None → (k : Key) → is_update_at k r.body ≡ true → AllByRecursion (λ u. is_update_at k u.body ≡ true → (u.trans.0 == r.trans.0) ≡ false → is_closed log u.trans.0 ≡ true) us
    update-covers [] g n k w = tt
    update-covers (u ∷ rest) g n k w = (here, update-covers rest g.1 (find-none (λ u. is_update_at key u.body && not (u.trans.0 == r.trans.0) && is_open log u.trans.0) u rest n).1 k w)
      where
        same : key ≡ k
        same = same_key-true key k (ap (is_update_at k) (sym b) ∙ w)

        fails : (is_update_at key u.body && not (u.trans.0 == r.trans.0) && is_open log u.trans.0) ≡ false
        fails = (find-none (λ u. is_update_at key u.body && not (u.trans.0 == r.trans.0) && is_open log u.trans.0) u rest n).0

        here : is_update_at k u.body ≡ true → (u.trans.0 == r.trans.0) ≡ false → is_closed log u.trans.0 ≡ true
        here x y = is_closed-not_open log u.trans.0 g.0 (let z : is_update_at key u.body ≡ true = ap (λ l. is_update_at l u.body) same ∙ x in (rw (z, y) at fails))

    nobody : find (λ u. is_update_at key u.body && not (u.trans.0 == r.trans.0) && is_open log u.trans.0) (all_surviving log) ≡ None
    unfolding held_by
    nobody = unmapped (holder log r.trans.0 (Update key before after)) (ap (λ x. option_map (λ u. u.trans) (holder log r.trans.0 x)) (sym b) ∙ a.held)
      where
        unmapped : (o : Option Record) → option_map (λ u. u.trans) o ≡ None → o ≡ None
        unmapped None e = refl
        unmapped (Some u) e = absurd (cc e)

    update-surviving : all_surviving (log ++ r ∷ []) ≡ r ∷ all_surviving log
    update-surviving = all_surviving-push log r ∙ ap (survivors_after (all_surviving log) r) b

    update-sound : Sound (log ++ r ∷ [])
    update-sound = record {
      now = λ k. image_now-push log r k ∙ ap (λ x. image_with k (image_now log k) (change_in r x)) b ∙ rw update-surviving (image k);
      chained = rw update-surviving ((λ k w. ap image_before b ∙ update-saw ∙ s.now key ∙ ap (standing (all_surviving log)) (same_key-true key k (ap (is_update_at k) (sym b) ∙ w))), s.chained);
      covers = rw update-surviving (
        (λ k w. All-weaken (λ u. is_update_at k u.body ≡ true → (u.trans.0 == r.trans.0) ≡ false → is_closed log u.trans.0 ≡ true) (λ u. is_update_at k u.body ≡ true → (u.trans.0 == r.trans.0) ≡ false → is_closed (log ++ r ∷ []) u.trans.0 ≡ true) (λ u f x y. is_closed-grows log r u.trans.0 (f x y)) (all_surviving log) (update-covers (all_surviving log) (All-has_begun log) nobody k w)),
        Covers-grows (is_closed log) (is_closed (log ++ r ∷ [])) (is_closed-grows log r) (all_surviving log) s.covers,
      );
      settled = settled-next;
      below = below-next;
    }
      where
        image : (k : Key) → cond (same_key key k) after (image_now log k) ≡ standing (r ∷ all_surviving log) k
        image k = subst (λ c. cond (same_key key k) after (image_now log k) ≡ image_of_found (cond c (Some r) (find (λ u. is_update_at k u.body) (all_surviving log)))) (sym (ap (is_update_at k) b)) (go (same_key key k))
          where
            go : (c : Bool) → cond c after (image_now log k) ≡ image_of_found (cond c (Some r) (find (λ u. is_update_at k u.body) (all_surviving log)))
            go true = sym (ap image_written b)
            go false = s.now k

  -- ---- a compensation

  module _ (undo_next : Lsn) (key : Key) (after : Image) (b : r.body ≡ Compensation undo_next key after) where
    undoes : (left : List Record) → undoes_newest left (Compensation undo_next key after) ≡ true → (u : Record) × (rest : List Record) × (left ≡ u ∷ rest) × (is_update_at key u.body ≡ true) × (same_image after (image_before u.body) ≡ true)
    undoes [] e = absurd (false≢true e)
    undoes (u ∷ rest) e = let p : (is_update_at key u.body ≡ true) × (same_image after (image_before u.body) ≡ true) = and_parts _ _ e in (u, rest, refl, p.0, p.1)

    undone_one : (u : Record) × (rest : List Record) × (to_undo log r.trans.0 ≡ u ∷ rest) × (is_update_at key u.body ≡ true) × (same_image after (image_before u.body) ≡ true)
    unfolding wrong_compensation
    undone_one = undoes (to_undo log r.trans.0) (ap (undoes_newest (to_undo log r.trans.0)) (sym b) ∙ not-false (undoes_newest (to_undo log r.trans.0) r.body) a.compensation)

    -- it belongs to a loser
    compensation-unended : is_unended log r.trans.0 ≡ true
    compensation-unended = goes_on (rw b refl) (has_begun-survivor log r.trans.0 (ap is_some_left undone_one.2))

    compensation-loser : is_open log r.trans.0 ≡ true
    unfolding is_open
    compensation-loser = rw (compensation-unended, only_ends (rw b refl)) refl

    first_by : filter (is_by r.trans.0) (all_surviving log) ≡ undone_one.0 ∷ undone_one.1
    first_by = all_surviving-by r.trans.0 log ∙ undone_one.2

    compensation-surviving : all_surviving (log ++ r ∷ []) ≡ without_newest r.trans.0 (all_surviving log)
    compensation-surviving = all_surviving-push log r ∙ ap (survivors_after (all_surviving log) r) b

    open_one : is_closed log r.trans.0 ≡ false
    open_one = is_closed-open log r.trans.0 compensation-loser

    compensation-sound : Sound (log ++ r ∷ [])
    compensation-sound = record {
      now = λ k. image_now-push log r k ∙ ap (λ x. image_with k (image_now log k) (change_in r x)) b ∙ rw compensation-surviving (image k (same_key key k) refl);
      chained = rw compensation-surviving (Chained-undone (is_closed log) r.trans.0 open_one (all_surviving log) undone_one.0 undone_one.1 s.chained s.covers first_by);
      covers = rw compensation-surviving (Covers-without_newest (is_closed (log ++ r ∷ [])) r.trans.0 (all_surviving log) (Covers-grows (is_closed log) (is_closed (log ++ r ∷ [])) (is_closed-grows log r) (all_surviving log) s.covers));
      settled = settled-next;
      below = below-next;
    }
      where
        image : (k : Key) (c : Bool) → same_key key k ≡ c → cond c after (image_now log k) ≡ standing (without_newest r.trans.0 (all_surviving log)) k
        image k true e =
            let at : is_update_at k undone_one.0.body ≡ true = is_update_at-same key k undone_one.0.body undone_one.3 ∙ e in
            same_image-true after (image_before undone_one.0.body) undone_one.4 ∙ sym (standing-undone (is_closed log) r.trans.0 open_one (all_surviving log) undone_one.0 undone_one.1 s.chained s.covers first_by k at)
        image k false e =
            let at : is_update_at k undone_one.0.body ≡ false = is_update_at-same key k undone_one.0.body undone_one.3 ∙ e in
            s.now k ∙ sym (standing-kept (is_closed log) r.trans.0 open_one (all_surviving log) undone_one.0 undone_one.1 first_by k at)

  -- ---- any other record

  quiet-survivors : (b : Body) → is_update b ≡ false → is_compensation b ≡ false → survivors_after (all_surviving log) r b ≡ all_surviving log
  quiet-survivors (Update key before after) u c = absurd (false≢true (sym u))
  quiet-survivors (Compensation undo_next key after) u c = absurd (false≢true (sym c))
  quiet-survivors Commit u c = refl
  quiet-survivors Rollback u c = refl
  quiet-survivors End u c = refl
  quiet-survivors BeginCheckpoint u c = refl
  quiet-survivors (EndCheckpoint transactions pages) u c = refl
  quiet-survivors Prepare u c = refl

  module _ (u : is_update r.body ≡ false) (c : is_compensation r.body ≡ false) where
    quiet-surviving : all_surviving (log ++ r ∷ []) ≡ all_surviving log
    quiet-surviving = all_surviving-push log r ∙ quiet-survivors r.body u c

    quiet-sound : Sound (log ++ r ∷ [])
    quiet-sound = record {
      now = λ k. image_now-push log r k ∙ ap (image_with k (image_now log k)) (quiet r.body u c) ∙ s.now k ∙ ap (λ us. standing us k) (sym quiet-surviving);
      chained = rw quiet-surviving s.chained;
      covers = rw quiet-surviving (Covers-grows (is_closed log) (is_closed (log ++ r ∷ [])) (is_closed-grows log r) (all_surviving log) s.covers);
      settled = settled-next;
      below = below-next;
    }

  pub Sound-push : Sound (log ++ r ∷ [])
  Sound-push = go r.body refl
    where
      go : (b : Body) → r.body ≡ b → Sound (log ++ r ∷ [])
      go (Update key before after) e = update-sound key before after e
      go (Compensation undo_next key after) e = compensation-sound undo_next key after e
      go Commit e = quiet-sound (ap is_update e) (ap is_compensation e)
      go Rollback e = quiet-sound (ap is_update e) (ap is_compensation e)
      go End e = quiet-sound (ap is_update e) (ap is_compensation e)
      go BeginCheckpoint e = quiet-sound (ap is_update e) (ap is_compensation e)
      go (EndCheckpoint transactions pages) e = quiet-sound (ap is_update e) (ap is_compensation e)
      go Prepare e = quiet-sound (ap is_update e) (ap is_compensation e)

Sound-nil : Sound []
unfolding image_now all_surviving to_undo records_of has_begun has_ended
Sound-nil = record { now = λ k. refl; chained = tt; covers = tt; settled = λ t e _. absurd (false≢true e); below = λ t e. absurd (false≢true e) }

-- each valid log keeps it
pub Sound-valid : (log : List Record) → is_valid log ≡ true → Sound log
Sound-valid log v = valid_induction Sound Sound-nil (λ l r w s a. Sound-push l r s a) log v
