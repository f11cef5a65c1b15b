-- A decision of a transaction in doubt: its commit or rollback record may follow, takes no more room than was in reserve, and
-- leaves the others in doubt.
use Rattle.std.proofs.Common.{◌≡◌, ℕ, ◌==◌, ◌+◌, ◌*◌, ◌≤◌, Bool, true, false, not, ◌&&◌, ◌||◌, List, [], ◌∷◌, ◌++◌, length, filter, find, refl, sym, ap, ◌∙◌, inl, inr, arith}
use Rattle.std.specs.List.{sum_by}
use Rattle.std.proofs.lemmas.Bool.{cases_Bool, eqb-true, false≢true, le-ltb, and_from}
use Rattle.std.proofs.lemmas.List.Sums.{sum_by-cons}
use Rattle.std.proofs.lemmas.List.Elements.{filter_agree}
use Rattle.als_record.specs.declared.key.Key.{Key}
use Rattle.als_record.specs.declared.record.Body.{Body}
use Rattle.als_record.specs.declared.record.Body.TheVariants.{Update, Compensation, Commit, Rollback, End, BeginCheckpoint, EndCheckpoint, Prepare}
use Rattle.als_record.specs.declared.record.Record.{Record}
use Rattle.als_record.specs.Spelling.{body_len, record_len}
use Rattle.als_record.specs.Transactions.{is_transactional, is_commit, is_rollback, is_end, is_prepare, is_decision, is_of, to_undo, has_prepare, is_committed, has_rollback, is_unended, is_open, is_in_doubt, last_lsn, transactions, unended, in_doubt, survivors_after, all_surviving}
use Rattle.als_record.specs.Images.{is_update_at, image_of_found, is_kept, kept, kept_without}
use Rattle.als_record.specs.Validity.{prev_of, bad_prev, old_transaction, wrong_state, goes_on_after, wrong_undo_next, undoes_newest, wrong_compensation, held_by, before_image, too_many, bad_checkpoint, may_follow, is_valid}
use Rattle.als_record.specs.Tail.{undo_len, decision, reserve_of}
use Rattle.als_record.proofs.Records.{is_open-other, is_committed-own, is_committed-other, is_in_doubt-own, is_in_doubt-other, has_begun-unended, has_ended-unended, in_doubt_parts}
use Rattle.als_record.proofs.Numbers.{without, eqb-refl, eqb-sym, length-without}
use Rattle.als_record.proofs.Survivors.{all_surviving-push}
use Rattle.als_record.proofs.Unended.{transactions-same, unended-more, Apart-in_doubt, is_among-in_doubt}
use Rattle.als_record.proofs.Validity.{Admitted, is_valid-push, may_follow-admitted}
use Rattle.als_record.proofs.Takeover.{find-agree, length-unended}
use Rattle.als_record.proofs.Reserve.{holding, reserve_of-is}

-- what a decision is
by_decision : (P : Body → Type 0) → P Commit → P Rollback → (b : Body) → is_decision b ≡ true → P b
by_decision P c k Commit e = c
by_decision P c k Rollback e = k
by_decision P c k (Update key before after) e = absurd (false≢true e)
by_decision P c k (Compensation undo_next key after) e = absurd (false≢true e)
by_decision P c k End e = absurd (false≢true e)
by_decision P c k BeginCheckpoint e = absurd (false≢true e)
by_decision P c k (EndCheckpoint transactions pages) e = absurd (false≢true e)
by_decision P c k Prepare e = absurd (false≢true e)

module _ (log : List Record) (t : ℕ) (d : is_in_doubt log t ≡ true) where
  parts : (is_unended log t ≡ true) × (has_prepare log t ≡ true) × (is_committed log t ≡ false) × (has_rollback log t ≡ false)
  parts = in_doubt_parts log t d

  -- ---- it may follow

  module _ (v : is_valid log ≡ true) where
    may_commit : Admitted log (decision log t Commit)
    unfolding bad_prev prev_of old_transaction wrong_state wrong_undo_next wrong_compensation held_by before_image too_many bad_checkpoint
    may_commit = record {
      place = refl;
      prev = rw parts.0 (ap not (eqb-refl (last_lsn log t)));
      old = rw parts.0 refl;
      state = rw (parts.2, parts.3, d) refl;
      next = ap not (anything (to_undo log t));
      compensation = ap not (nothing (to_undo log t));
      held = refl;
      image = refl;
      many = le-ltb 256 (length (unended (log ++ decision log t Commit ∷ []))) (rw (unended-more log (decision log t Commit) refl refl parts.0) (length-unended log v));
      checkpoint = refl;
    }
      where
        anything : (us : List Record) → goes_on_after us Commit ≡ true
        anything [] = refl
        anything (w ∷ rest) = refl

        nothing : (us : List Record) → undoes_newest us Commit ≡ true
        nothing [] = refl
        nothing (w ∷ rest) = refl

    may_roll_back : Admitted log (decision log t Rollback)
    unfolding bad_prev prev_of old_transaction wrong_state wrong_undo_next wrong_compensation held_by before_image too_many bad_checkpoint
    may_roll_back = record {
      place = refl;
      prev = rw parts.0 (ap not (eqb-refl (last_lsn log t)));
      old = rw parts.0 refl;
      state = rw (parts.2, parts.3, d) refl;
      next = ap not (anything (to_undo log t));
      compensation = ap not (nothing (to_undo log t));
      held = refl;
      image = refl;
      many = le-ltb 256 (length (unended (log ++ decision log t Rollback ∷ []))) (rw (unended-more log (decision log t Rollback) refl refl parts.0) (length-unended log v));
      checkpoint = refl;
    }
      where
        anything : (us : List Record) → goes_on_after us Rollback ≡ true
        anything [] = refl
        anything (w ∷ rest) = refl

        nothing : (us : List Record) → undoes_newest us Rollback ≡ true
        nothing [] = refl
        nothing (w ∷ rest) = refl

    pub decision-admitted : (b : Body) → is_decision b ≡ true → Admitted log (decision log t b)
    decision-admitted = by_decision (λ b. Admitted log (decision log t b)) may_commit may_roll_back

    pub decision-is_valid : (b : Body) → is_decision b ≡ true → is_valid (log ++ decision log t b ∷ []) ≡ true
    decision-is_valid b e = is_valid-push log (decision log t b) ∙ and_from (is_valid log) (may_follow log (decision log t b)) v (may_follow-admitted log (decision log t b) (decision-admitted b e))

  -- ---- who is in doubt behind it

  module _ (b : Body) (e : is_decision b ≡ true) where
    transactional : is_transactional b ≡ true
    transactional = by_decision (λ b. is_transactional b ≡ true) refl refl b e

    not_end : is_end b ≡ false
    not_end = by_decision (λ b. is_end b ≡ false) refl refl b e

    not_prepare : is_prepare b ≡ false
    not_prepare = by_decision (λ b. is_prepare b ≡ false) refl refl b e

    own : is_of t (decision log t b) ≡ true
    own = rw (transactional, eqb-refl t) refl

    other : (x : ℕ) → (x == t) ≡ false → is_of x (decision log t b) ≡ false
    other x y = rw transactional (eqb-sym t x ∙ y)

    decided : is_in_doubt (log ++ decision log t b ∷ []) t ≡ false
    decided = is_in_doubt-own log (decision log t b) t own ∙ rw (has_ended-unended log t parts.0, not_end, parts.1, parts.2, parts.3) (by_decision (λ b. (not (false || false) && (true || is_prepare b) && not (false || is_commit b) && not (false || is_rollback b)) ≡ false) refl refl b e)

    -- all others as before
    pub decision-is_in_doubt : (x : ℕ) → is_in_doubt (log ++ decision log t b ∷ []) x ≡ (is_in_doubt log x && not (x == t))
    decision-is_in_doubt x = elim (cases_Bool (x == t)) [
      | inl y ↦ ap (is_in_doubt (log ++ decision log t b ∷ [])) (eqb-true x t y) ∙ decided ∙ rw y (sym (off (is_in_doubt log x)))
      | inr y ↦ is_in_doubt-other log (decision log t b) x (other x y) ∙ rw y (sym (on (is_in_doubt log x)))
    ]
      where
        off : (a : Bool) → (a && not true) ≡ false
        off true = refl
        off false = refl

        on : (a : Bool) → (a && not false) ≡ a
        on true = refl
        on false = refl

    filter-and : (ts : List ℕ) → filter (λ x. is_in_doubt log x && not (x == t)) ts ≡ without t (filter (is_in_doubt log) ts)
    filter-and [] = refl
    filter-and (x ∷ ts) = elim (cases_Bool (is_in_doubt log x)) [
      | inl y ↦ elim (cases_Bool (x == t)) [
        | inl z ↦ simp (y, z) (filter-and ts)
        | inr z ↦ simp (y, z) (ap (λ xs. x ∷ xs) (filter-and ts))
      ]
      | inr y ↦ simp y (filter-and ts)
    ]

    pub decision-in_doubt : in_doubt (log ++ decision log t b ∷ []) ≡ without t (in_doubt log)
    unfolding in_doubt
    decision-in_doubt =
        ap (filter (is_in_doubt (log ++ decision log t b ∷ []))) (transactions-same log (decision log t b) transactional (has_begun-unended log t parts.0))
        ∙ filter_agree (is_in_doubt (log ++ decision log t b ∷ [])) (λ x. is_in_doubt log x && not (x == t)) decision-is_in_doubt (transactions log)
        ∙ filter-and (transactions log)

    -- ---- its room

    surviving-same : all_surviving (log ++ decision log t b ∷ []) ≡ all_surviving log
    surviving-same = all_surviving-push log (decision log t b) ∙ by_decision (λ b. survivors_after (all_surviving log) (decision log t b) b ≡ all_surviving log) refl refl b e

    -- nothing opens by it
    open-before : (x : ℕ) → is_open (log ++ decision log t b ∷ []) x ≡ true → is_open log x ≡ true
    unfolding is_open
    open-before x o = elim (cases_Bool (x == t)) [
      | inl y ↦ let q : x ≡ t = eqb-true x t y in rw (q, parts.0, parts.2) refl
      | inr y ↦ sym (is_open-other log (decision log t b) x (other x y)) ∙ o
    ]

    holding-less : sum_by undo_len (holding (log ++ decision log t b ∷ [])) ≤ sum_by undo_len (holding log)
    holding-less = rw surviving-same (go (all_surviving log))
      where
        go : (us : List Record) → sum_by undo_len (filter (λ u. is_open (log ++ decision log t b ∷ []) u.trans.0) us) ≤ sum_by undo_len (filter (λ u. is_open log u.trans.0) us)
        go [] = omega arith
        go (u ∷ us) =
            let ih : sum_by undo_len (filter (λ u. is_open (log ++ decision log t b ∷ []) u.trans.0) us) ≤ sum_by undo_len (filter (λ u. is_open log u.trans.0) us) = go us in
            let a : sum_by undo_len (u ∷ filter (λ u. is_open (log ++ decision log t b ∷ []) u.trans.0) us) ≡ undo_len u + sum_by undo_len (filter (λ u. is_open (log ++ decision log t b ∷ []) u.trans.0) us) = sum_by-cons undo_len u (filter (λ u. is_open (log ++ decision log t b ∷ []) u.trans.0) us) in
            let c : sum_by undo_len (u ∷ filter (λ u. is_open log u.trans.0) us) ≡ undo_len u + sum_by undo_len (filter (λ u. is_open log u.trans.0) us) = sum_by-cons undo_len u (filter (λ u. is_open log u.trans.0) us) in
            elim (cases_Bool (is_open (log ++ decision log t b ∷ []) u.trans.0)) [
              | inl y ↦ let z : is_open log u.trans.0 ≡ true = open-before u.trans.0 y in simp (y, z) (omega arith)
              | inr y ↦ elim (cases_Bool (is_open log u.trans.0)) [
                | inl z ↦ simp (y, z) (omega arith)
                | inr z ↦ simp (y, z) ih
              ]
            ]

    -- the record and what is then in reserve take no more than was in reserve
    pub decision-reserved : record_len (decision log t b) + reserve_of (log ++ decision log t b ∷ []) ≤ reserve_of log
    unfolding record_len
    decision-reserved =
        let size : 28 + body_len b ≡ 28 = by_decision (λ b. 28 + body_len b ≡ 28) refl refl b e in
        let is : reserve_of log ≡ 28 * length (unended log) + 28 * length (in_doubt log) + sum_by undo_len (holding log) = reserve_of-is log in
        let is' : reserve_of (log ++ decision log t b ∷ []) ≡ 28 * length (unended (log ++ decision log t b ∷ [])) + 28 * length (in_doubt (log ++ decision log t b ∷ [])) + sum_by undo_len (holding (log ++ decision log t b ∷ [])) = reserve_of-is (log ++ decision log t b ∷ []) in
        let same : length (unended (log ++ decision log t b ∷ [])) ≡ length (unended log) = ap length (unended-more log (decision log t b) transactional not_end parts.0) in
        let fewer : length (in_doubt (log ++ decision log t b ∷ [])) + 1 ≡ length (in_doubt log) =
        ap (λ ts. length ts + 1) decision-in_doubt ∙ length-without t (in_doubt log) (Apart-in_doubt log) (is_among-in_doubt log t ∙ d) in
        let less : sum_by undo_len (holding (log ++ decision log t b ∷ [])) ≤ sum_by undo_len (holding log) = holding-less in
        omega arith

  -- ---- what a takeover keeps

  -- a commit: all that was kept
  pub decision-commit : (k : Key) → kept (log ++ decision log t Commit ∷ []) k ≡ kept log k
  unfolding kept
  decision-commit k =
      ap (λ us. image_of_found (find (λ w. is_update_at k w.body && is_kept (log ++ decision log t Commit ∷ []) w.trans.0) us)) (surviving-same Commit refl)
      ∙ ap image_of_found (find-agree (λ w. is_update_at k w.body && is_kept (log ++ decision log t Commit ∷ []) w.trans.0) (λ w. is_update_at k w.body && is_kept log w.trans.0) (λ w. ap (λ b. is_update_at k w.body && b) (same w.trans.0)) (all_surviving log))
    where
      or_true : (c : Bool) → (c || true) ≡ true
      or_true true = refl
      or_true false = refl

      here : is_kept (log ++ decision log t Commit ∷ []) t ≡ is_kept log t
      here = rw (is_committed-own log (decision log t Commit) t (own Commit refl), d, parts.2) refl

      same : (x : ℕ) → is_kept (log ++ decision log t Commit ∷ []) x ≡ is_kept log x
      same x = elim (cases_Bool (x == t)) [
        | inl y ↦ let q : x ≡ t = eqb-true x t y in ap (is_kept (log ++ decision log t Commit ∷ [])) q ∙ here ∙ ap (is_kept log) (sym q)
        | inr y ↦ let o : is_of x (decision log t Commit) ≡ false = other Commit refl x y in
            cc (is_committed-other log (decision log t Commit) x o, is_in_doubt-other log (decision log t Commit) x o)
      ]

  -- a rollback: all but what this transaction wrote
  pub decision-rollback : (k : Key) → kept (log ++ decision log t Rollback ∷ []) k ≡ kept_without log t k
  unfolding kept kept_without
  decision-rollback k =
      ap (λ us. image_of_found (find (λ w. is_update_at k w.body && is_kept (log ++ decision log t Rollback ∷ []) w.trans.0) us)) (surviving-same Rollback refl)
      ∙ ap image_of_found (find-agree (λ w. is_update_at k w.body && is_kept (log ++ decision log t Rollback ∷ []) w.trans.0) (λ w. is_update_at k w.body && (is_kept log w.trans.0 && not (w.trans.0 == t))) (λ w. ap (λ b. is_update_at k w.body && b) (same w.trans.0)) (all_surviving log))
    where
      off : (a : Bool) → false ≡ (a && not true)
      off true = refl
      off false = refl

      on : (a : Bool) → a ≡ (a && not false)
      on true = refl
      on false = refl

      here : is_kept (log ++ decision log t Rollback ∷ []) t ≡ false
      here = rw (is_committed-own log (decision log t Rollback) t (own Rollback refl), decided Rollback refl, parts.2) refl

      same : (x : ℕ) → is_kept (log ++ decision log t Rollback ∷ []) x ≡ (is_kept log x && not (x == t))
      same x = elim (cases_Bool (x == t)) [
        | inl y ↦ let q : x ≡ t = eqb-true x t y in ap (is_kept (log ++ decision log t Rollback ∷ [])) q ∙ here ∙ rw y (off (is_kept log x))
        | inr y ↦ let o : is_of x (decision log t Rollback) ≡ false = other Rollback refl x y in
            let s : is_kept (log ++ decision log t Rollback ∷ []) x ≡ is_kept log x = cc (is_committed-other log (decision log t Rollback) x o, is_in_doubt-other log (decision log t Rollback) x o) in
            s ∙ rw y (on (is_kept log x))
      ]
