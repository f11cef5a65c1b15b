-- The length of a tail: its sum.
use Rattle.std.proofs.Common.{◌≡◌, ℕ, ◌==◌, ◌+◌, ◌*◌, Bool, true, false, ◌&&◌, List, [], ◌∷◌, ◌++◌, length, filter, sum_by, refl, sym, ap, ◌∙◌, inl, inr, subst, arith}
use Rattle.std.proofs.lemmas.Bool.{cases_Bool, eqb-true, false≢true, and_parts}
use Rattle.std.proofs.lemmas.List.Sums.{sum_by-cons}
use Rattle.als_record.specs.declared.record.Body.{Body}
use Rattle.als_record.specs.declared.record.Body.TheVariants.{Update, Compensation, Commit, Rollback, End, BeginCheckpoint, EndCheckpoint, Prepare}
use Rattle.als_record.specs.declared.record.Record.{Record}
use Rattle.als_record.specs.Spelling.{image_len, body_len, record_len}
use Rattle.als_record.specs.Images.{image_before}
use Rattle.als_record.specs.Transactions.{is_update, is_compensation, is_of, is_among, has_begun, is_unended, is_loser, unended}
use Rattle.als_record.specs.Tail.{TailStep, Ends, Undoes, is_finished, ends, undoes, losing, ending, tail_steps, undone, record_for, numbered, tail_of, tail_len, undo_len, undo_bytes}
use Rattle.als_record.proofs.Records.{to_undo-other, to_undo-none}
use Rattle.als_record.proofs.Numbers.{without, eqb-refl, is_among-filter, length-without}
use Rattle.als_record.proofs.Survivors.{is_by}
use Rattle.als_record.proofs.Unended.{Apart-ending, is_among-ending, is_among-unended}
use Rattle.als_record.proofs.TailSteps.{losing-is_update, losing-is_loser, undone-is_compensation, compensation-ending, compensation-losing, is_finished-in_doubt, end-ending, end-losing, tail_steps-next}
use Rattle.als_record.proofs.Takeover.{ending-without_tail}

-- ---- sums over the losers' updates

module _ (f : Record → ℕ) where
  -- without one transaction's
  pub sum-without : (p q : ℕ → Bool) (t : ℕ) → ((x : ℕ) → (x == t) ≡ false → q x ≡ p x) → p t ≡ true → q t ≡ false → (us : List Record) → sum_by f (filter (λ u. q u.trans.0) us) + sum_by f (filter (is_by t) us) ≡ sum_by f (filter (λ u. p u.trans.0) us)
  sum-without p q t agree y n [] = refl
  sum-without p q t agree y n (u ∷ us) =
      let ih : sum_by f (filter (λ u. q u.trans.0) us) + sum_by f (filter (is_by t) us) ≡ sum_by f (filter (λ u. p u.trans.0) us) = sum-without p q t agree y n us in
      let a : sum_by f (u ∷ filter (λ u. q u.trans.0) us) ≡ f u + sum_by f (filter (λ u. q u.trans.0) us) = sum_by-cons f u (filter (λ u. q u.trans.0) us) in
      let b : sum_by f (u ∷ filter (is_by t) us) ≡ f u + sum_by f (filter (is_by t) us) = sum_by-cons f u (filter (is_by t) us) in
      let c : sum_by f (u ∷ filter (λ u. p u.trans.0) us) ≡ f u + sum_by f (filter (λ u. p u.trans.0) us) = sum_by-cons f u (filter (λ u. p u.trans.0) us) in
      elim (cases_Bool (u.trans.0 == t)) [
        | inl w ↦
            let g : u.trans.0 ≡ t = eqb-true u.trans.0 t w in
            let z : p u.trans.0 ≡ true = ap p g ∙ y in
            let o : q u.trans.0 ≡ false = ap q g ∙ n in
            simp (w, z, o) (omega arith)
        | inr w ↦ elim (cases_Bool (p u.trans.0)) [
          | inl z ↦ let o : q u.trans.0 ≡ true = agree u.trans.0 w ∙ z in simp (w, z, o) (omega arith)
          | inr z ↦ let o : q u.trans.0 ≡ false = agree u.trans.0 w ∙ z in simp (w, z, o) (omega arith)
        ]
      ]

-- ---- the sum

-- each unended transaction that is not in doubt ends, and each loser's update is compensated
abbrev pub tail_sum : List Record → ℕ
tail_sum log = 28 * length (ending log) + sum_by undo_len (losing log)

record_len-undone : (log : List Record) (u : Record) → is_update u.body ≡ true → record_len (record_for log (Undoes u)) ≡ undo_len u
unfolding record_len
record_len-undone log u e = go u.body e
  where
    go : (b : Body) → is_update b ≡ true → 28 + body_len (undone u.prev b) ≡ 42 + image_len (image_before b)
    go (Update key before after) e = omega arith
    go (Compensation undo_next key after) e = absurd (false≢true e)
    go Commit e = absurd (false≢true e)
    go Rollback e = absurd (false≢true e)
    go End e = absurd (false≢true e)
    go BeginCheckpoint e = absurd (false≢true e)
    go (EndCheckpoint transactions pages) e = absurd (false≢true e)
    go Prepare e = absurd (false≢true e)

-- one step of a tail takes its record's length off the sum
tail_sum-next : (log : List Record) (step : TailStep) (rest : List TailStep) → tail_steps log ≡ step ∷ rest → record_len (record_for log step) + tail_sum (log ++ record_for log step ∷ []) ≡ tail_sum log
unfolding tail_steps undoes record_len
tail_sum-next log step rest e = go (filter (is_finished log) (unended log)) refl (losing log) refl e
  where
    at_end : (t : ℕ) (ts : List ℕ) → filter (is_finished log) (unended log) ≡ t ∷ ts → record_len (record_for log (Ends t)) + tail_sum (log ++ record_for log (Ends t) ∷ []) ≡ tail_sum log
    at_end t ts p =
        let r : Record = record_for log (Ends t) in
        let a : ending (log ++ r ∷ []) ≡ without t (ending log) = end-ending log r refl passes.1 passes.0 in
        let b : losing (log ++ r ∷ []) ≡ losing log = end-losing log r refl passes.1 passes.0 in
        let n : length (without t (ending log)) + 1 ≡ length (ending log) = length-without t (ending log) (Apart-ending log) (is_among-ending log t ∙ rw (is_finished-in_doubt log t passes.0, passes.1) refl) in
        rw (a, b) (omega arith)
      where
        passes : (is_finished log t ≡ true) × (is_unended log t ≡ true)
        passes = and_parts (is_finished log t) (is_unended log t)
            (ap (λ b. is_finished log t && b) (sym (is_among-unended log t)) ∙ sym (is_among-filter (is_finished log) t (unended log)) ∙ ap (λ xs. is_among xs t) p ∙ rw (eqb-refl t) refl)

    at_undo : (u : Record) (us : List Record) → losing log ≡ u ∷ us → record_len (record_for log (Undoes u)) + tail_sum (log ++ record_for log (Undoes u) ∷ []) ≡ tail_sum log
    at_undo u us q =
        let r : Record = record_for log (Undoes u) in
        let i : is_update u.body ≡ true = losing-is_update log u us q in
        let c : is_compensation (undone u.prev u.body) ≡ true = undone-is_compensation u.prev u.body i in
        let l : is_loser log u.trans.0 ≡ true = losing-is_loser log u us q in
        let a : ending (log ++ r ∷ []) ≡ ending log = compensation-ending log r c l in
        let b : losing (log ++ r ∷ []) ≡ us = compensation-losing log r c l u us q refl in
        let n : record_len (record_for log (Undoes u)) ≡ undo_len u = record_len-undone log u i in
        let m : sum_by undo_len (u ∷ us) ≡ undo_len u + sum_by undo_len us = sum_by-cons undo_len u us in
        rw (a, b, q) (omega arith)

    go : (ts : List ℕ) → filter (is_finished log) (unended log) ≡ ts → (us : List Record) → losing log ≡ us → ends ts ++ undoes us ≡ step ∷ rest → record_len (record_for log step) + tail_sum (log ++ record_for log step ∷ []) ≡ tail_sum log
    go (t ∷ ts) p us q e = let s : step ≡ Ends t = cc e in subst (λ st. record_len (record_for log st) + tail_sum (log ++ record_for log st ∷ []) ≡ tail_sum log) (sym s) (at_end t ts p)
    go [] p (u ∷ us) q e = let s : step ≡ Undoes u = cc e in subst (λ st. record_len (record_for log st) + tail_sum (log ++ record_for log st ∷ []) ≡ tail_sum log) (sym s) (at_undo u us q)
    go [] p [] q e = absurd (cc e)

tail_sum-none : (log : List Record) → tail_steps log ≡ [] → tail_sum log ≡ 0
unfolding tail_steps undoes
tail_sum-none log e = rw (ending-without_tail log e, empty (filter (is_finished log) (unended log)) (losing log) e) refl
  where
    empty : (ts : List ℕ) (us : List Record) → ends ts ++ undoes us ≡ [] → us ≡ []
    empty [] [] q = refl
    empty [] (u ∷ us) q = absurd (cc q)
    empty (t ∷ ts) us q = absurd (cc q)

numbered-len : (steps : List TailStep) (log : List Record) → tail_steps log ≡ steps → sum_by record_len (numbered log steps) ≡ tail_sum log
unfolding numbered
numbered-len [] log e = sym (tail_sum-none log e)
numbered-len (step ∷ rest) log e =
    sum_by-cons record_len (record_for log step) (numbered (log ++ record_for log step ∷ []) rest)
    ∙ ap (λ n. record_len (record_for log step) + n) (numbered-len rest (log ++ record_for log step ∷ []) (tail_steps-next log step rest e))
    ∙ tail_sum-next log step rest e

-- the tail's length
pub tail_len-is : (log : List Record) → tail_len log ≡ tail_sum log
unfolding tail_len tail_of
tail_len-is log = numbered-len (tail_steps log) log refl

-- ---- what the undo of one transaction takes

module _ (log : List Record) (r : Record) (t : ℕ) where
  pub undo_bytes-other : is_of t r ≡ false → undo_bytes (log ++ r ∷ []) t ≡ undo_bytes log t
  unfolding undo_bytes
  undo_bytes-other o = ap (sum_by undo_len) (to_undo-other log r t o)

pub undo_bytes-none : (log : List Record) (t : ℕ) → has_begun log t ≡ false → undo_bytes log t ≡ 0
unfolding undo_bytes
undo_bytes-none log t n = ap (sum_by undo_len) (to_undo-none log t n)
