-- A takeover: the tail may follow its log, ends every transaction, and leaves what the committed ones wrote.
use Rattle.std.proofs.Common.{◌≡◌, ℕ, ◌==◌, ◌+◌, ◌≤◌, nat_lt, Bool, true, false, cond, not, ◌&&◌, ◌||◌, List, [], ◌∷◌, ◌++◌, length, filter, find, Some, refl, sym, ap, ◌∙◌, inl, inr, subst, arith, append_assoc, append-nil}
use Rattle.std.specs.List.{AllByRecursion}
use Rattle.std.proofs.lemmas.Bool.{cases_Bool, eqb-true, false≢true, and_parts, and_from, or_parts, not-true, not-false, or_left, or_right, ltb-false, le-ltb}
use Rattle.als_record.specs.declared.key.Key.{Key}
use Rattle.als_record.specs.declared.record.Body.{Body}
use Rattle.als_record.specs.declared.record.Body.TheVariants.{Update, Compensation, Commit, Rollback, End, BeginCheckpoint, EndCheckpoint, Prepare}
use Rattle.als_record.specs.declared.record.Record.{Record}
use Rattle.als_record.specs.Spelling.{Image}
use Rattle.als_record.specs.Transactions.{is_update, is_compensation, is_among, to_undo, is_some_left, is_committed, has_rollback, has_begun, has_ended, is_unended, is_in_doubt, is_loser, last_lsn, transactions, unended, in_doubt, without_newest, all_surviving}
use Rattle.als_record.specs.Images.{same_image, image_now, is_update_at, image_before, image_of_found, is_kept, kept}
use Rattle.als_record.specs.Validity.{prev_of, bad_prev, old_transaction, wrong_state, goes_on_after, wrong_undo_next, undoes_newest, wrong_compensation, held_by, before_image, too_many, bad_checkpoint, may_follow, is_valid}
use Rattle.als_record.specs.Tail.{TailStep, Ends, Undoes, is_finished, ends, undoes, losing, ending, tail_steps, undone, record_for, numbered, tail_of, is_undone}
use Rattle.als_record.proofs.Numbers.{without, eqb-refl, is_among-filter, length-without}
use Rattle.als_record.proofs.Records.{loser_parts, is_loser-from}
use Rattle.als_record.proofs.Survivors.{is_by, all_surviving-by, All-has_begun, All-weaken}
use Rattle.als_record.proofs.Unended.{Apart-unended, is_among-unended, is_among-ending, unended-in_doubt, is_undone-ending, ending-is_undone}
use Rattle.als_record.proofs.Validity.{is_valid-push, Admitted, may_follow-admitted, valid_induction}
use Rattle.als_record.proofs.TailSteps.{filter-by, losing-is_update, losing-is_loser, undone-is_compensation, compensation-all_surviving, compensation-is_committed, compensation-is_in_doubt, compensation-unended, loser-to_undo, is_finished-in_doubt, end-all_surviving, end-is_committed, end-is_in_doubt, end-unended, tail_steps-next, tail_steps-doubts}
use Rattle.als_record.proofs.Standing.{same_key-refl, same_image-refl}
use Rattle.als_record.proofs.Sound.{Sound, Sound-valid}

-- ---- no valid log has more than 256 unended transactions

few : (n : ℕ) → nat_lt 256 n ≡ false → n ≤ 256
few n e = ltb-false 256 n e

unended-nil : unended [] ≡ []
unfolding unended transactions
unended-nil = refl

pub length-unended : (log : List Record) → is_valid log ≡ true → length (unended log) ≤ 256
unfolding too_many
length-unended log v = valid_induction (λ l. length (unended l) ≤ 256) (rw unended-nil (omega arith)) (λ l r w h a. few (length (unended (l ++ r ∷ []))) a.many) log v

-- ---- a tail's first record may follow

module _ (log : List Record) (v : is_valid log ≡ true) where
  may_end : (t : ℕ) → is_unended log t ≡ true → is_finished log t ≡ true → Admitted log (record_for log (Ends t))
  unfolding bad_prev prev_of old_transaction wrong_state wrong_undo_next wrong_compensation held_by before_image too_many bad_checkpoint is_finished
  may_end t u f = record {
    place = refl;
    prev = rw u (ap not (eqb-refl (last_lsn log t)));
    old = rw u refl;
    state = let d : is_in_doubt log t ≡ false = is_finished-in_doubt log t f in rw d (settled (is_committed log t) (has_rollback log t) (is_some_left (to_undo log t)) (rw d at f));
    next = ap not (anything (to_undo log t));
    compensation = ap not (nothing (to_undo log t));
    held = refl;
    image = refl;
    many = le-ltb 256 (length (unended (log ++ r ∷ []))) shorter;
    checkpoint = refl;
  }
    where
      r : Record
      r = record_for log (Ends t)

      settled : (c h l : Bool) → (c || (not false && not l)) ≡ true → ((c && not true) || (h && not c && false) || (false && not false) || (true && not c && l)) ≡ false
      settled true true l e = refl
      settled true false l e = refl
      settled false true true e = absurd (false≢true e)
      settled false true false e = refl
      settled false false true e = absurd (false≢true e)
      settled false false false e = refl

      anything : (us : List Record) → goes_on_after us End ≡ true
      anything [] = refl
      anything (w ∷ rest) = refl

      nothing : (us : List Record) → undoes_newest us End ≡ true
      nothing [] = refl
      nothing (w ∷ rest) = refl

      shorter : length (unended (log ++ r ∷ [])) ≤ 256
      shorter =
          let e : unended (log ++ r ∷ []) ≡ without t (unended log) = end-unended log r refl u in
          let n : length (without t (unended log)) + 1 ≡ length (unended log) = length-without t (unended log) (Apart-unended log) (is_among-unended log t ∙ u) in
          let h : length (unended log) ≤ 256 = length-unended log v in
          rw e (omega arith)

  module _ (u : Record) (rest : List Record) (e : losing log ≡ u ∷ rest) where
    loser : is_loser log u.trans.0 ≡ true
    loser = losing-is_loser log u rest e

    parts : (is_unended log u.trans.0 ≡ true) × (is_committed log u.trans.0 ≡ false) × (is_in_doubt log u.trans.0 ≡ false)
    parts = loser_parts log u.trans.0 loser

    comp : is_compensation (record_for log (Undoes u)).body ≡ true
    comp = undone-is_compensation u.prev u.body (losing-is_update log u rest e)

    left : to_undo log u.trans.0 ≡ u ∷ filter (is_by u.trans.0) rest
    left = loser-to_undo log (record_for log (Undoes u)) comp loser u rest e refl

    module _ (key : Key) (before after : Image) (b : u.body ≡ Update key before after) where
      c : undone u.prev u.body ≡ Compensation u.prev key before
      c = ap (undone u.prev) b

      may_undo_at : Admitted log (record_for log (Undoes u))
      unfolding bad_prev prev_of old_transaction wrong_state wrong_undo_next wrong_compensation held_by before_image too_many bad_checkpoint
      may_undo_at = record {
        place = refl;
        prev = rw (c, parts.0) (ap not (eqb-refl (last_lsn log u.trans.0)));
        old = rw (c, parts.0) refl;
        state = rw (c, parts.1, parts.2) (rolling (has_rollback log u.trans.0));
        next = rw (c, left) (ap not (eqb-refl u.prev.0));
        compensation = rw (c, left) (ap not {y = true} (and_from (is_update_at key u.body) (same_image before (image_before u.body)) (ap (is_update_at key) b ∙ same_key-refl key) (ap (λ x. same_image before (image_before x)) b ∙ same_image-refl before)));
        held = rw c refl;
        image = rw c refl;
        many = le-ltb 256 (length (unended (log ++ record_for log (Undoes u) ∷ []))) (rw (compensation-unended log (record_for log (Undoes u)) comp loser) (length-unended log v));
        checkpoint = rw c refl;
      }
        where
          rolling : (h : Bool) → ((false && true) || (h && true && false) || (false && true) || (false && true && is_some_left (to_undo log u.trans.0))) ≡ false
          rolling true = refl
          rolling false = refl

    may_undo : Admitted log (record_for log (Undoes u))
    may_undo = go u.body refl (losing-is_update log u rest e)
      where
        go : (b : Body) → u.body ≡ b → is_update b ≡ true → Admitted log (record_for log (Undoes u))
        go (Update key before after) q y = may_undo_at key before after q
        go (Compensation undo_next key after) q y = absurd (false≢true y)
        go Commit q y = absurd (false≢true y)
        go Rollback q y = absurd (false≢true y)
        go End q y = absurd (false≢true y)
        go BeginCheckpoint q y = absurd (false≢true y)
        go (EndCheckpoint transactions pages) q y = absurd (false≢true y)
        go Prepare q y = absurd (false≢true y)

-- ---- what is kept stays through a tail

pub find-without_newest : (p : Record → Bool) (t : ℕ) → ((u : Record) → (u.trans.0 == t) ≡ true → p u ≡ false) → (us : List Record) → find p (without_newest t us) ≡ find p us
find-without_newest p t f [] = refl
find-without_newest p t f (u ∷ rest) = elim (cases_Bool (u.trans.0 == t)) [
  | inl y ↦ let z : p u ≡ false = f u y in simp (y, z)
  | inr y ↦ elim (cases_Bool (p u)) [
    | inl z ↦ simp (y, z)
    | inr z ↦ simp (y, z) (find-without_newest p t f rest)
  ]
]

pub find-agree : (p q : Record → Bool) → ((u : Record) → p u ≡ q u) → (us : List Record) → find p us ≡ find q us
find-agree p q f [] = refl
find-agree p q f (u ∷ rest) = rw (f u) (ap (cond (q u) (Some u)) (find-agree p q f rest))

kept-end : (log : List Record) (t : ℕ) → is_unended log t ≡ true → is_finished log t ≡ true → (k : Key) → kept (log ++ record_for log (Ends t) ∷ []) k ≡ kept log k
unfolding kept
kept-end log t u f k =
    ap (λ us. image_of_found (find (λ w. is_update_at k w.body && is_kept (log ++ record_for log (Ends t) ∷ []) w.trans.0) us)) (end-all_surviving log (record_for log (Ends t)) refl u)
    ∙ ap image_of_found (find-agree (λ w. is_update_at k w.body && is_kept (log ++ record_for log (Ends t) ∷ []) w.trans.0) (λ w. is_update_at k w.body && is_kept log w.trans.0) (λ w. ap (λ b. is_update_at k w.body && b) (same w.trans.0)) (all_surviving log))
  where
    same : (x : ℕ) → is_kept (log ++ record_for log (Ends t) ∷ []) x ≡ is_kept log x
    same x = cc (end-is_committed log (record_for log (Ends t)) refl u x, end-is_in_doubt log (record_for log (Ends t)) refl u f x)

kept-undo : (log : List Record) (r : Record) → is_compensation r.body ≡ true → is_loser log r.trans.0 ≡ true → (k : Key) → kept (log ++ r ∷ []) k ≡ kept log k
unfolding kept
kept-undo log r c l k =
    ap (λ us. image_of_found (find (λ w. is_update_at k w.body && is_kept (log ++ r ∷ []) w.trans.0) us)) (compensation-all_surviving log r c l)
    ∙ ap image_of_found (find-agree (λ w. is_update_at k w.body && is_kept (log ++ r ∷ []) w.trans.0) (λ w. is_update_at k w.body && is_kept log w.trans.0) (λ w. ap (λ b. is_update_at k w.body && b) (same w.trans.0)) (without_newest r.trans.0 (all_surviving log)))
    ∙ ap image_of_found (find-without_newest (λ w. is_update_at k w.body && is_kept log w.trans.0) r.trans.0 lost (all_surviving log))
  where
    same : (x : ℕ) → is_kept (log ++ r ∷ []) x ≡ is_kept log x
    same x = cc (compensation-is_committed log r c l x, compensation-is_in_doubt log r c l x)

    either : (b : Bool) → (b && false) ≡ false
    either true = refl
    either false = refl

    lost : (u : Record) → (u.trans.0 == r.trans.0) ≡ true → (is_update_at k u.body && is_kept log u.trans.0) ≡ false
    lost u y =
        let p : (is_unended log r.trans.0 ≡ true) × (is_committed log r.trans.0 ≡ false) × (is_in_doubt log r.trans.0 ≡ false) = loser_parts log r.trans.0 l in
        ap (λ x. is_update_at k u.body && is_kept log x) (eqb-true u.trans.0 r.trans.0 y) ∙ rw (p.1, p.2) (either (is_update_at k u.body))

-- ---- one step of a tail

-- the first step of a tail: it may follow, and what a takeover keeps stays
pub record Steps (log : List Record) (step : TailStep) : Type 0 where
  pub may : Admitted log (record_for log step)
  pub stays : (k : Key) → kept (log ++ record_for log step ∷ []) k ≡ kept log k

pub tail_steps-first : (log : List Record) (step : TailStep) (rest : List TailStep) → is_valid log ≡ true → tail_steps log ≡ step ∷ rest → Steps log step
unfolding tail_steps undoes
tail_steps-first log step rest v e = go (filter (is_finished log) (unended log)) refl (losing log) refl e
  where
    at_end : (t : ℕ) (ts : List ℕ) → filter (is_finished log) (unended log) ≡ t ∷ ts → Steps log (Ends t)
    at_end t ts p = record { may = may_end log v t passes.1 passes.0; stays = kept-end log t passes.1 passes.0 }
      where
        passes : (is_finished log t ≡ true) × (is_unended log t ≡ true)
        passes = and_parts (is_finished log t) (is_unended log t)
            (ap (λ b. is_finished log t && b) (sym (is_among-unended log t)) ∙ sym (is_among-filter (is_finished log) t (unended log)) ∙ ap (λ xs. is_among xs t) p ∙ rw (eqb-refl t) refl)

    at_undo : (u : Record) (us : List Record) → losing log ≡ u ∷ us → Steps log (Undoes u)
    at_undo u us q = record { may = may_undo log v u us q; stays = kept-undo log (record_for log (Undoes u)) (comp log v u us q) (loser log v u us q) }

    go : (ts : List ℕ) → filter (is_finished log) (unended log) ≡ ts → (us : List Record) → losing log ≡ us → ends ts ++ undoes us ≡ step ∷ rest → Steps log step
    go (t ∷ ts) p us q e = let s : step ≡ Ends t = cc e in subst (Steps log) (sym s) (at_end t ts p)
    go [] p (u ∷ us) q e = let s : step ≡ Undoes u = cc e in subst (Steps log) (sym s) (at_undo u us q)
    go [] p [] q e = absurd (cc e)

-- ---- the end of a tail

-- a log without a tail has no unended transaction but those in doubt
pub ending-without_tail : (log : List Record) → tail_steps log ≡ [] → ending log ≡ []
unfolding tail_steps undoes losing is_finished
ending-without_tail log e = nobody (ending log) refl
  where
    empty : (ts : List ℕ) (us : List Record) → ends ts ++ undoes us ≡ [] → (ts ≡ []) × (us ≡ [])
    empty [] [] q = (refl, refl)
    empty [] (u ∷ us) q = absurd (cc q)
    empty (t ∷ ts) us q = absurd (cc q)

    parts_of : (filter (is_finished log) (unended log) ≡ []) × (losing log ≡ [])
    parts_of = empty (filter (is_finished log) (unended log)) (losing log) e

    nobody : (xs : List ℕ) → ending log ≡ xs → xs ≡ []
    nobody [] q = refl
    nobody (x ∷ xs) q = absurd (false≢true (sym (ap is_some_left none) ∙ not-false (is_some_left (to_undo log x)) (rw decided at unfinished.1)))
      where
        is_one : (not (is_in_doubt log x) ≡ true) × (is_unended log x ≡ true)
        is_one = and_parts (not (is_in_doubt log x)) (is_unended log x) (sym (is_among-ending log x) ∙ ap (λ ys. is_among ys x) q ∙ rw (eqb-refl x) refl)

        decided : is_in_doubt log x ≡ false
        decided = not-true (is_in_doubt log x) is_one.0

        unfinished : (is_committed log x ≡ false) × ((not (is_in_doubt log x) && not (is_some_left (to_undo log x))) ≡ false)
        unfinished = or_parts (is_committed log x) (not (is_in_doubt log x) && not (is_some_left (to_undo log x)))
            (alone (is_finished log x) (is_unended log x) is_one.1 ∙ ap (λ b. is_finished log x && b) (sym (is_among-unended log x)) ∙ sym (is_among-filter (is_finished log) x (unended log)) ∙ ap (λ ys. is_among ys x) parts_of.0)
          where
            alone : (a b : Bool) → b ≡ true → a ≡ (a && b)
            alone true b q = sym q
            alone false b q = refl

        lost : is_loser log x ≡ true
        lost = is_loser-from log x is_one.1 unfinished.0 decided

        none : to_undo log x ≡ []
        none = sym (all_surviving-by x log) ∙ sym (filter-by (is_loser log) x lost (all_surviving log)) ∙ ap (filter (is_by x)) parts_of.1

pub is_undone-without_tail : (log : List Record) → tail_steps log ≡ [] → is_undone log ≡ true
is_undone-without_tail log e = ending-is_undone log (ending-without_tail log e)

-- a surviving update is among those of its transaction
All-some_left : (log : List Record) → AllByRecursion (λ u. is_some_left (to_undo log u.trans.0) ≡ true) (all_surviving log)
All-some_left log = All-weaken (λ u. is_some_left (filter (is_by u.trans.0) (all_surviving log)) ≡ true) (λ u. is_some_left (to_undo log u.trans.0) ≡ true) (λ u e. ap is_some_left (sym (all_surviving-by u.trans.0 log)) ∙ e) (all_surviving log) (each (all_surviving log))
  where
    more : (b : Bool) (u : Record) (us : List Record) → is_some_left us ≡ true → is_some_left (cond b (u ∷ us) us) ≡ true
    more true u us e = refl
    more false u us e = e

    each : (us : List Record) → AllByRecursion (λ u. is_some_left (filter (is_by u.trans.0) us) ≡ true) us
    each [] = tt
    each (u ∷ rest) = (rw (eqb-refl u.trans.0) refl, All-weaken (λ v. is_some_left (filter (is_by v.trans.0) rest) ≡ true) (λ v. is_some_left (filter (is_by v.trans.0) (u ∷ rest)) ≡ true) (λ v. more (u.trans.0 == v.trans.0) u (filter (is_by v.trans.0) rest)) rest (each rest))

find-where : (p q : Record → Bool) (us : List Record) → AllByRecursion (λ u. q u ≡ true) us → find p us ≡ find (λ u. p u && q u) us
find-where p q [] a = refl
find-where p q (u ∷ rest) a = rw a.0 (elim (cases_Bool (p u)) [
  | inl y ↦ simp y
  | inr y ↦ simp y (find-where p q rest a.1)
])

-- where a takeover ends none, each surviving update is of a transaction that is committed or in doubt
All-is_kept : (log : List Record) → Sound log → ending log ≡ [] → AllByRecursion (λ u. is_kept log u.trans.0 ≡ true) (all_surviving log)
unfolding is_unended
All-is_kept log s n = each (all_surviving log) (All-has_begun log) (All-some_left log)
  where
    one : (t : ℕ) → has_begun log t ≡ true → is_some_left (to_undo log t) ≡ true → is_kept log t ≡ true
    one t b l = elim (cases_Bool (is_in_doubt log t)) [
      | inl d ↦ or_right (is_committed log t) (is_in_doubt log t) d
      | inr d ↦
          let e : (not (is_in_doubt log t) && is_unended log t) ≡ false = sym (is_among-ending log t) ∙ ap (λ ys. is_among ys t) n in
          or_left (is_committed log t) (is_in_doubt log t) (s.settled t l (not-false (has_ended log t) (rw (d, b) at e)))
    ]

    each : (us : List Record) → AllByRecursion (λ u. has_begun log u.trans.0 ≡ true) us → AllByRecursion (λ u. is_some_left (to_undo log u.trans.0) ≡ true) us → AllByRecursion (λ u. is_kept log u.trans.0 ≡ true) us
    each [] a b = tt
    each (u ∷ rest) a b = (one u.trans.0 a.0 b.0, each rest a.1 b.1)

-- and where nothing of the tail is left, each key has what a takeover keeps
pub image_now-without_tail : (log : List Record) → is_valid log ≡ true → is_undone log ≡ true → (k : Key) → image_now log k ≡ kept log k
unfolding kept
image_now-without_tail log v n k = (Sound-valid log v).now k ∙ ap image_of_found (find-where (λ u. is_update_at k u.body) (λ u. is_kept log u.trans.0) (all_surviving log) (All-is_kept log (Sound-valid log v) (is_undone-ending log n)))

-- ---- the law of a takeover

pub record TakenOver (log more : List Record) : Type 0 where
  pub valid : is_valid (log ++ more) ≡ true
  pub ended : unended (log ++ more) ≡ in_doubt log
  pub images : (k : Key) → image_now (log ++ more) k ≡ kept log k

taken_over : (steps : List TailStep) (log : List Record) → is_valid log ≡ true → tail_steps log ≡ steps → TakenOver log (numbered log steps)
unfolding numbered
taken_over [] log v e =
    let n : unended log ≡ in_doubt log = unended-in_doubt log (ending-without_tail log e) in
    record { valid = ap is_valid (append-nil log) ∙ v; ended = ap unended (append-nil log) ∙ n; images = λ k. ap (λ l. image_now l k) (append-nil log) ∙ image_now-without_tail log v (is_undone-without_tail log e) k }
taken_over (step ∷ rest) log v e = joined (taken_over rest (log ++ record_for log step ∷ []) next (tail_steps-next log step rest e))
  where
    one : Steps log step
    one = tail_steps-first log step rest v e

    next : is_valid (log ++ record_for log step ∷ []) ≡ true
    next = is_valid-push log (record_for log step) ∙ and_from (is_valid log) (may_follow log (record_for log step)) v (may_follow-admitted log (record_for log step) one.may)

    joined : TakenOver (log ++ record_for log step ∷ []) (numbered (log ++ record_for log step ∷ []) rest) → TakenOver log (record_for log step ∷ numbered (log ++ record_for log step ∷ []) rest)
    joined t =
        let a : (log ++ record_for log step ∷ []) ++ numbered (log ++ record_for log step ∷ []) rest ≡ log ++ (record_for log step ∷ numbered (log ++ record_for log step ∷ []) rest) = append_assoc log (record_for log step ∷ []) (numbered (log ++ record_for log step ∷ []) rest) in
        record {
          valid = ap is_valid (sym a) ∙ t.valid;
          ended = ap unended (sym a) ∙ t.ended ∙ (tail_steps-doubts log step rest e).0;
          images = λ k. ap (λ l. image_now l k) (sym a) ∙ t.images k ∙ one.stays k;
        }

pub tail_of-takes_over : (log : List Record) → is_valid log ≡ true → TakenOver log (tail_of log)
unfolding tail_of
tail_of-takes_over log v = taken_over (tail_steps log) log v refl
