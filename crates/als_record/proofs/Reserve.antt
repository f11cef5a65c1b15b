-- The reserve of a log: its sum, and along a takeover. Proofs above reach it by these laws alone.
use Rattle.std.proofs.Common.{◌≡◌, ℕ, ◌==◌, ◌+◌, ◌*◌, Bool, true, false, cond, not, ◌&&◌, ◌||◌, List, [], ◌∷◌, ◌++◌, length, filter, refl, sym, ap, ◌∙◌, inl, inr, arith}
use Rattle.std.specs.List.{sum_by}
use Rattle.std.proofs.lemmas.Bool.{cases_Bool}
use Rattle.std.proofs.lemmas.List.Sums.{sum_by-cons}
use Rattle.std.proofs.lemmas.List.Elements.{filter_agree}
use Rattle.als_record.specs.declared.record.Record.{Record}
use Rattle.als_record.specs.Spelling.{record_len}
use Rattle.als_record.specs.LogText.{end_of}
use Rattle.als_record.specs.Orders.{Apart}
use Rattle.als_record.specs.Transactions.{is_among, to_undo, has_begun, is_committed, is_unended, is_open, is_in_doubt, is_loser, transactions, unended, in_doubt, all_surviving}
use Rattle.als_record.specs.Tail.{undoes, losing, ending, tail_steps, numbered, tail_of, tail_len, undo_len, undo_bytes, decision_bytes, reserve_of}
use Rattle.als_record.proofs.Records.{is_open-is, is_open-over, loser_parts, is_in_doubt-over, has_begun-unended}
use Rattle.als_record.proofs.Numbers.{eqb-refl, eqb-sym, is_among-filter, Apart-filter}
use Rattle.als_record.proofs.Survivors.{is_by, all_surviving-by}
use Rattle.als_record.proofs.Unended.{Apart-transactions, is_among-transactions, Apart-in_doubt, is_among-in_doubt, length-unended_parts}
use Rattle.als_record.proofs.TailSteps.{doubting}
use Rattle.als_record.proofs.TailLength.{sum-without, tail_len-is}
use Rattle.als_record.proofs.TailFirst.{tail_len-next, doubts-next}
use Rattle.als_record.proofs.Places.{end_of-push}

-- of an empty log nothing
pub reserve_of-nil : reserve_of [] ≡ 0
unfolding reserve_of tail_len tail_of numbered tail_steps unended in_doubt transactions losing undoes all_surviving
reserve_of-nil = refl

-- ---- what decisions may append

-- the updates of some transactions, one transaction after another
sum-apart : (f : Record → ℕ) (us : List Record) (ts : List ℕ) → Apart ts → sum_by (λ t. sum_by f (filter (is_by t) us)) ts ≡ sum_by f (filter (λ u. is_among ts u.trans.0) us)
sum-apart f us [] a = sym (nothing us)
  where
    nothing : (us : List Record) → sum_by f (filter (λ u. false) us) ≡ 0
    nothing [] = refl
    nothing (u ∷ rest) = nothing rest
sum-apart f us (t ∷ ts) a =
    let ih : sum_by (λ t. sum_by f (filter (is_by t) us)) ts ≡ sum_by f (filter (λ u. is_among ts u.trans.0) us) = sum-apart f us ts a.1 in
    let c : sum_by (λ t. sum_by f (filter (is_by t) us)) (t ∷ ts) ≡ sum_by f (filter (is_by t) us) + sum_by (λ t. sum_by f (filter (is_by t) us)) ts = sum_by-cons (λ t. sum_by f (filter (is_by t) us)) t ts in
    let w : sum_by f (filter (λ u. is_among ts u.trans.0) us) + sum_by f (filter (is_by t) us) ≡ sum_by f (filter (λ u. is_among (t ∷ ts) u.trans.0) us) =
    sum-without f (is_among (t ∷ ts)) (is_among ts) t apart (rw (eqb-refl t) refl) a.0 us in
    omega arith
  where
    apart : (x : ℕ) → (x == t) ≡ false → is_among ts x ≡ is_among (t ∷ ts) x
    apart x e = let q : (t == x) ≡ false = eqb-sym t x ∙ e in rw q refl

-- 56 bytes for each transaction in doubt, and the compensations of its updates
pub decisions-are : (log : List Record) → sum_by (decision_bytes log) (in_doubt log) ≡ 56 * length (in_doubt log) + sum_by undo_len (doubting log)
unfolding undo_bytes
decisions-are log = counted (in_doubt log) ∙ ap (λ n. 56 * length (in_doubt log) + n) (each (in_doubt log) ∙ sum-apart undo_len (all_surviving log) (in_doubt log) (Apart-in_doubt log)
    ∙ ap (sum_by undo_len) (filter_agree (λ (u : Record). is_among (in_doubt log) u.trans.0) (λ u. is_in_doubt log u.trans.0) (λ u. is_among-in_doubt log u.trans.0) (all_surviving log)))
  where
    counted : (ts : List ℕ) → sum_by (λ t. 56 + sum_by undo_len (to_undo log t)) ts ≡ 56 * length ts + sum_by (λ t. sum_by undo_len (to_undo log t)) ts
    counted [] = refl
    counted (t ∷ ts) =
        let ih : sum_by (λ t. 56 + sum_by undo_len (to_undo log t)) ts ≡ 56 * length ts + sum_by (λ t. sum_by undo_len (to_undo log t)) ts = counted ts in
        let a : sum_by (λ t. 56 + sum_by undo_len (to_undo log t)) (t ∷ ts) ≡ 56 + sum_by undo_len (to_undo log t) + sum_by (λ t. 56 + sum_by undo_len (to_undo log t)) ts = sum_by-cons (λ t. 56 + sum_by undo_len (to_undo log t)) t ts in
        let b : sum_by (λ t. sum_by undo_len (to_undo log t)) (t ∷ ts) ≡ sum_by undo_len (to_undo log t) + sum_by (λ t. sum_by undo_len (to_undo log t)) ts = sum_by-cons (λ t. sum_by undo_len (to_undo log t)) t ts in
        omega arith

    each : (ts : List ℕ) → sum_by (λ t. sum_by undo_len (to_undo log t)) ts ≡ sum_by (λ t. sum_by undo_len (filter (is_by t) (all_surviving log))) ts
    each [] = refl
    each (t ∷ ts) =
        sum_by-cons (λ t. sum_by undo_len (to_undo log t)) t ts
        ∙ ap (λ n. sum_by undo_len (to_undo log t) + n) (each ts)
        ∙ ap (λ us. sum_by undo_len us + sum_by (λ t. sum_by undo_len (filter (is_by t) (all_surviving log))) ts) (sym (all_surviving-by t log))
        ∙ sym (sum_by-cons (λ t. sum_by undo_len (filter (is_by t) (all_surviving log))) t ts)

-- ---- the sum

-- the surviving updates of the open transactions
abbrev pub holding : List Record → List Record
holding log = filter (λ u. is_open log u.trans.0) (all_surviving log)

-- those of the losers and those in doubt are those of the open ones
parts-holding : (log : List Record) → sum_by undo_len (losing log) + sum_by undo_len (doubting log) ≡ sum_by undo_len (holding log)
unfolding losing
parts-holding log = go (all_surviving log)
  where
    go : (us : List Record) → sum_by undo_len (filter (λ u. is_loser log u.trans.0) us) + sum_by undo_len (filter (λ u. is_in_doubt log u.trans.0) us) ≡ sum_by undo_len (filter (λ u. is_open log u.trans.0) us)
    go [] = refl
    go (u ∷ us) =
        let ih : sum_by undo_len (filter (λ u. is_loser log u.trans.0) us) + sum_by undo_len (filter (λ u. is_in_doubt log u.trans.0) us) ≡ sum_by undo_len (filter (λ u. is_open log u.trans.0) us) = go us in
        let a : sum_by undo_len (u ∷ filter (λ u. is_loser log u.trans.0) us) ≡ undo_len u + sum_by undo_len (filter (λ u. is_loser log u.trans.0) us) = sum_by-cons undo_len u (filter (λ u. is_loser log u.trans.0) us) in
        let b : sum_by undo_len (u ∷ filter (λ u. is_in_doubt log u.trans.0) us) ≡ undo_len u + sum_by undo_len (filter (λ u. is_in_doubt log u.trans.0) us) = sum_by-cons undo_len u (filter (λ u. is_in_doubt log u.trans.0) us) in
        let c : sum_by undo_len (u ∷ filter (λ u. is_open log u.trans.0) us) ≡ undo_len u + sum_by undo_len (filter (λ u. is_open log u.trans.0) us) = sum_by-cons undo_len u (filter (λ u. is_open log u.trans.0) us) in
        let o : is_open log u.trans.0 ≡ (is_loser log u.trans.0 || is_in_doubt log u.trans.0) = is_open-is log u.trans.0 in
        elim (cases_Bool (is_loser log u.trans.0)) [
          | inl l ↦
              let d : is_in_doubt log u.trans.0 ≡ false = (loser_parts log u.trans.0 l).2 in
              let y : is_open log u.trans.0 ≡ true = o ∙ rw l refl in
              simp (l, d, y) (omega arith)
          | inr l ↦ elim (cases_Bool (is_in_doubt log u.trans.0)) [
            | inl d ↦ let y : is_open log u.trans.0 ≡ true = o ∙ rw (l, d) refl in simp (l, d, y) (omega arith)
            | inr d ↦ let y : is_open log u.trans.0 ≡ false = o ∙ rw (l, d) refl in simp (l, d, y) ih
          ]
        ]

-- 28 bytes for each unended transaction, 28 more for each in doubt, and the compensations of what the open ones hold
pub reserve_of-is : (log : List Record) → reserve_of log ≡ 28 * length (unended log) + 28 * length (in_doubt log) + sum_by undo_len (holding log)
unfolding reserve_of
reserve_of-is log =
    let a : tail_len log ≡ 28 * length (ending log) + sum_by undo_len (losing log) = tail_len-is log in
    let b : sum_by (decision_bytes log) (in_doubt log) ≡ 56 * length (in_doubt log) + sum_by undo_len (doubting log) = decisions-are log in
    let c : length (unended log) ≡ length (ending log) + length (in_doubt log) = length-unended_parts log in
    let d : sum_by undo_len (losing log) + sum_by undo_len (doubting log) ≡ sum_by undo_len (holding log) = parts-holding log in
    omega arith

-- ---- what each unended transaction adds to it

module _ (log : List Record) where
  -- the open transactions are among those that have begun
  is_among-open : (t : ℕ) → is_among (filter (is_open log) (transactions log)) t ≡ is_open log t
  unfolding is_open
  is_among-open t = is_among-filter (is_open log) t (transactions log) ∙ ap (λ b. is_open log t && b) (is_among-transactions log t) ∙ elim (cases_Bool (is_unended log t)) [
    | inl u ↦ let b : has_begun log t ≡ true = has_begun-unended log t u in rw (u, b) (alone (not (is_committed log t)))
    | inr u ↦ rw u refl
  ]
    where
      alone : (b : Bool) → ((true && b) && true) ≡ (true && b)
      alone true = refl
      alone false = refl

  holding-each : sum_by (undo_bytes log) (filter (is_open log) (transactions log)) ≡ sum_by undo_len (holding log)
  unfolding undo_bytes
  holding-each =
      each (filter (is_open log) (transactions log))
      ∙ sum-apart undo_len (all_surviving log) (filter (is_open log) (transactions log)) (Apart-filter (is_open log) (transactions log) (Apart-transactions log))
      ∙ ap (sum_by undo_len) (filter_agree (λ (u : Record). is_among (filter (is_open log) (transactions log)) u.trans.0) (λ u. is_open log u.trans.0) (λ u. is_among-open u.trans.0) (all_surviving log))
    where
      each : (ts : List ℕ) → sum_by (λ t. sum_by undo_len (to_undo log t)) ts ≡ sum_by (λ t. sum_by undo_len (filter (is_by t) (all_surviving log))) ts
      each [] = refl
      each (t ∷ ts) =
          sum_by-cons (λ t. sum_by undo_len (to_undo log t)) t ts
          ∙ ap (λ n. sum_by undo_len (to_undo log t) + n) (each ts)
          ∙ ap (λ us. sum_by undo_len us + sum_by (λ t. sum_by undo_len (filter (is_by t) (all_surviving log))) ts) (sym (all_surviving-by t log))
          ∙ sym (sum_by-cons (λ t. sum_by undo_len (filter (is_by t) (all_surviving log))) t ts)

  -- its end; in doubt its decision; where it is open the compensations of its updates
  pub reserve_of-each : reserve_of log ≡ sum_by (λ t. 28 + cond (is_in_doubt log t) 28 0 + cond (is_open log t) (undo_bytes log t) 0) (unended log)
  unfolding unended in_doubt
  reserve_of-each =
      reserve_of-is log
      ∙ ap (λ n. 28 * length (filter (is_unended log) (transactions log)) + 28 * length (filter (is_in_doubt log) (transactions log)) + n) (sym holding-each)
      ∙ sym (go (transactions log))
    where
      one : ℕ → ℕ
      one t = 28 + cond (is_in_doubt log t) 28 0 + cond (is_open log t) (undo_bytes log t) 0

      go : (ts : List ℕ) → sum_by one (filter (is_unended log) ts) ≡ 28 * length (filter (is_unended log) ts) + 28 * length (filter (is_in_doubt log) ts) + sum_by (undo_bytes log) (filter (is_open log) ts)
      go [] = refl
      go (t ∷ ts) =
          let ih : sum_by one (filter (is_unended log) ts) ≡ 28 * length (filter (is_unended log) ts) + 28 * length (filter (is_in_doubt log) ts) + sum_by (undo_bytes log) (filter (is_open log) ts) = go ts in
          let a : sum_by one (t ∷ filter (is_unended log) ts) ≡ 28 + cond (is_in_doubt log t) 28 0 + cond (is_open log t) (undo_bytes log t) 0 + sum_by one (filter (is_unended log) ts) = sum_by-cons one t (filter (is_unended log) ts) in
          let b : sum_by (undo_bytes log) (t ∷ filter (is_open log) ts) ≡ undo_bytes log t + sum_by (undo_bytes log) (filter (is_open log) ts) = sum_by-cons (undo_bytes log) t (filter (is_open log) ts) in
          elim (cases_Bool (is_unended log t)) [
            | inr u ↦
                let d : is_in_doubt log t ≡ false = is_in_doubt-over log t u in
                let o : is_open log t ≡ false = is_open-over log t u in
                simp (u, d, o) ih
            | inl u ↦ elim (cases_Bool (is_in_doubt log t)) [
              | inl d ↦
                  let o : is_open log t ≡ true = is_open-is log t ∙ rw d (or_true (is_loser log t)) in
                  let c : sum_by one (t ∷ filter (is_unended log) ts) ≡ 28 + 28 + undo_bytes log t + sum_by one (filter (is_unended log) ts) = a ∙ rw (d, o) refl in
                  simp (u, d, o) (omega arith)
              | inr d ↦ elim (cases_Bool (is_open log t)) [
                | inl o ↦
                    let c : sum_by one (t ∷ filter (is_unended log) ts) ≡ 28 + 0 + undo_bytes log t + sum_by one (filter (is_unended log) ts) = a ∙ rw (d, o) refl in
                    simp (u, d, o) (omega arith)
                | inr o ↦
                    let c : sum_by one (t ∷ filter (is_unended log) ts) ≡ 28 + 0 + 0 + sum_by one (filter (is_unended log) ts) = a ∙ rw (d, o) refl in
                    simp (u, d, o) (omega arith)
              ]
            ]
          ]
        where
          or_true : (b : Bool) → (b || true) ≡ true
          or_true true = refl
          or_true false = refl

-- ---- one record of the tail on

module _ (log : List Record) (r : Record) (rest : List Record) (e : tail_of log ≡ r ∷ rest) where
  -- it is less by the record
  pub reserve_of-next : record_len r + reserve_of (log ++ r ∷ []) ≡ reserve_of log
  unfolding reserve_of
  reserve_of-next =
      let a : record_len r + tail_len (log ++ r ∷ []) ≡ tail_len log = tail_len-next log r rest e in
      let b : sum_by (decision_bytes log) (in_doubt log) ≡ 56 * length (in_doubt log) + sum_by undo_len (doubting log) = decisions-are log in
      let c : sum_by (decision_bytes (log ++ r ∷ [])) (in_doubt (log ++ r ∷ [])) ≡ 56 * length (in_doubt log) + sum_by undo_len (doubting log) =
      decisions-are (log ++ r ∷ []) ∙ ap (λ ts. 56 * length ts + sum_by undo_len (doubting (log ++ r ∷ []))) (doubts-next log r rest e).0 ∙ ap (λ us. 56 * length (in_doubt log) + sum_by undo_len us) (doubts-next log r rest e).1 in
      omega arith

  -- so the room that the log and its reserve take stays
  pub room-next : end_of (log ++ r ∷ []) + reserve_of (log ++ r ∷ []) ≡ end_of log + reserve_of log
  room-next =
      let a : end_of (log ++ r ∷ []) ≡ end_of log + record_len r = end_of-push log r in
      let b : record_len r + reserve_of (log ++ r ∷ []) ≡ reserve_of log = reserve_of-next in
      omega arith
