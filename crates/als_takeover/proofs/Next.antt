-- The next record of a tail, from what is kept of the transactions and from the log.
use Rattle.std.proofs.Common.{◌≡◌, ℕ, ◌+◌, ◌%◌, ◌^◌, ◌≤◌, ◌<◌, ◌==◌, Bool, true, false, cond, not, ◌&&◌, ◌||◌, List, [], ◌∷◌, ◌++◌, length, map, filter, Option, Some, None, refl, sym, ap, ◌∙◌, inl, inr, subst, arith, get_or, set, zero, suc, le_of_suc-le-suc}
use Rattle.std.specs.Prelude.{find}
use Rattle.std.specs.List.{list_any, AllByRecursion}
use Rattle.std.proofs.Math.Nat.{mod-eq_of_lt}
use Rattle.std.proofs.lemmas.Bool.{cases_Bool, cases_eq, cases_lt, eqb-true, ne_eqb, false≢true}
use Rattle.std.proofs.lemmas.List.{length-map, get_or-set_same, get_or-set_other, get_or_past, get_or-map}
use Rattle.als_record.specs.declared.record.Body.{Body}
use Rattle.als_record.specs.declared.record.Body.TheVariants.{Update, Compensation, Commit, Rollback, End, BeginCheckpoint, EndCheckpoint, Prepare}
use Rattle.als_record.specs.declared.record.Record.{Record}
use Rattle.als_record.specs.declared.transaction_row.TransactionRow.{TransactionRow}
use Rattle.als_record.specs.declared.transaction_state.TransactionState.{TransactionState}
use Rattle.als_record.specs.Spelling.{record_len}
use Rattle.als_record.specs.LogText.{end_of}
use Rattle.als_record.specs.Transactions.{is_among, is_of, is_update, is_some_left, records_of, to_undo, to_undo_after, is_committed, has_rollback, has_prepare, last_lsn, undo_next_of, is_unended, is_in_doubt, is_loser, unended, all_surviving}
use Rattle.als_record.specs.Table.{row_of, state_of, table_of}
use Rattle.als_record.specs.Tail.{Ends, Undoes, TailStep, is_finished, ends, undoes, losing, tail_steps, record_for, numbered, tail_of, undone}
use Rattle.als_record.specs.UndoChain.{goes_to, undo_chain, backwards}
use Rattle.als_record.specs.Validity.{is_valid}
use Rattle.als_record.proofs.Chain.{undo_chain-is}
use Rattle.als_record.proofs.ChainReads.{ChainStep, undo_chain-step, undo_chain-first, undo_chain-update, undo_chain-skip}
use Rattle.als_record.proofs.Survivors.{is_by, all_surviving-by, log_induction}
use Rattle.als_record.proofs.Numbers.{eqb-refl, is_among-filter}
use Rattle.als_record.proofs.Places.{end_of-push, record_len-head}
use Rattle.als_record.proofs.Records.{to_undo-own, to_undo-other, is_loser-from, loser_parts}
use Rattle.als_record.proofs.Unended.{is_among-unended, All-unended, is_prepared-state}
use Rattle.als_record.proofs.Falling.{losing-first, losing-none}
use Rattle.als_analysis.specs.declared.open_row.OpenRow.{OpenRow}
use Rattle.als_analysis.specs.Noted.{survivor_count}
use Rattle.als_analysis.specs.Open.{fresh_open, rows_of, left_of}
use Rattle.als_takeover.specs.Next.{first_of, is_committed_state, is_over, cursor_in, undoing, undo_of, AreCursors, NoneToUndo, IsNewest, IsTop, AreUnfinished}

-- ---- numbers and lists

-- what is not 0 is above it
pub above : (n : ℕ) → (n ≡ 0 → ⊥) → 0 < n
above zero e = absurd (e refl)
above (suc n) e = omega arith

is_some_left-first : (us : List Record) → is_some_left us ≡ true → (w : Record) × (rest : List Record) × (us ≡ w ∷ rest)
is_some_left-first [] e = absurd (false≢true e)
is_some_left-first (u ∷ us) e = (u, us, refl)

-- no element, or some
none_counted : (us : List Record) → (length us == 0) ≡ not (is_some_left us)
none_counted [] = refl
none_counted (u ∷ us) = ne_eqb (length (u ∷ us)) 0 (omega arith)

-- a number among others stands at a place
among-index : (ts : List ℕ) (t : ℕ) → is_among ts t ≡ true → (k : ℕ) × (k < length ts) × (get_or ts k 0 ≡ t)
among-index [] t m = absurd (false≢true m)
among-index (s ∷ ts) t m = elim (cases_Bool (s == t)) [
  | inl y ↦ (0, omega arith, eqb-true s t y)
  | inr y ↦
      let f : is_among ts t ≡ true = (rw y at m) in
      let r : (k : ℕ) × (k < length ts) × (get_or ts k 0 ≡ t) = among-index ts t f in
      (suc r.0, omega (arith, r.1), r.2)
]

-- and one at a place is among them
index-among : (ts : List ℕ) (k : ℕ) → k < length ts → is_among ts (get_or ts k 0) ≡ true
index-among [] k l = absurd (omega (arith, l))
index-among (t ∷ ts) zero l = rw (eqb-refl t) refl
index-among (t ∷ ts) (suc k) l = either (t == get_or ts k 0) (is_among ts (get_or ts k 0)) (index-among ts k (le_of_suc-le-suc l))
  where
    either : (a b : Bool) → b ≡ true → (a || b) ≡ true
    either true b e = refl
    either false b e = e

filter-first : (p : Record → Bool) (us : List Record) (w : Record) (rest : List Record) → filter p us ≡ w ∷ rest → p w ≡ true
filter-first p [] w rest e = absurd (cc e)
filter-first p (u ∷ us) w rest e = elim (cases_Bool (p u)) [
  | inl y ↦ let f : u ∷ filter p us ≡ w ∷ rest = (rw y at e) in let g : u ≡ w = cc f in ap p (sym g) ∙ y
  | inr y ↦ let f : filter p us ≡ w ∷ rest = (rw y at e) in filter-first p us w rest f
]

-- ---- what is kept of a transaction, beside its number in the log

record IsKeptOf (log : List Record) (o : OpenRow) (t : ℕ) : Type 0 where
  unended : is_unended log t ≡ true
  row : o.row ≡ row_of log t
  left : o.left ≡ length (to_undo log t)

abbrev Beside : List Record → List OpenRow → List ℕ → Type 0
Beside log [] [] = Unit {0}
Beside log (o ∷ es) (t ∷ ts) = IsKeptOf log o t × Beside log es ts
Beside log _ _ = ⊥

beside : (log : List Record) (es : List OpenRow) (ts : List ℕ) → map (λ (o : OpenRow). o.row) es ≡ map (row_of log) ts → map (λ (o : OpenRow). o.left) es ≡ map (λ t. survivor_count log t % 2 ^ 64) ts → ((t : ℕ) → survivor_count log t < 2 ^ 64) → AllByRecursion (λ t. is_unended log t ≡ true) ts → Beside log es ts
beside log [] [] p q few a = tt
beside log [] (t ∷ ts) p q few a = absurd (cc p)
beside log (o ∷ es) [] p q few a = absurd (cc p)
beside log (o ∷ es) (t ∷ ts) p q few a =
    let n : o.left ≡ survivor_count log t % 2 ^ 64 = cc q in
    (record { unended = a.0; row = cc p; left = n ∙ mod-eq_of_lt (few t) }, beside log es ts (cc p) (cc q) few a.1)

-- each surviving update has its byte in the log
to_undo-after : (left : List Record) (r : Record) (b : Body) → length (to_undo_after left r b) ≤ length left + 1
to_undo-after left r (Update key before after) = omega arith
to_undo-after [] r (Compensation undo_next key after) = omega arith
to_undo-after (u ∷ rest) r (Compensation undo_next key after) = omega arith
to_undo-after left r Commit = omega arith
to_undo-after left r Rollback = omega arith
to_undo-after left r End = omega arith
to_undo-after left r BeginCheckpoint = omega arith
to_undo-after left r (EndCheckpoint rows pages) = omega arith
to_undo-after left r Prepare = omega arith

to_undo-start : (t : ℕ) → survivor_count [] t ≤ end_of []
unfolding to_undo records_of
to_undo-start t = omega arith

pub survivor_count-below : (t : ℕ) (log : List Record) → survivor_count log t ≤ end_of log
survivor_count-below t log = log_induction (λ l. survivor_count l t ≤ end_of l) (to_undo-start t) more log
  where
    more : (l : List Record) (r : Record) → survivor_count l t ≤ end_of l → survivor_count (l ++ r ∷ []) t ≤ end_of (l ++ r ∷ [])
    more l r h =
        let n : end_of (l ++ r ∷ []) ≡ end_of l + record_len r = end_of-push l r in
        let m : 28 ≤ record_len r = record_len-head r in
        elim (cases_Bool (is_of t r)) [
          | inl own ↦ let e : survivor_count (l ++ r ∷ []) t ≤ survivor_count l t + 1 = rw (to_undo-own l r t own) (to_undo-after (to_undo l t) r r.body) in omega arith
          | inr other ↦ let e : survivor_count (l ++ r ∷ []) t ≡ survivor_count l t = ap (λ (us : List Record). length us) (to_undo-other l r t other) in omega arith
        ]

committed_state : (log : List Record) (t : ℕ) → is_committed_state (state_of log t) ≡ is_committed log t
unfolding state_of
committed_state log t = go (is_committed log t) (has_rollback log t) (has_prepare log t)
  where
    go : (a b p : Bool) → is_committed_state (cond a TransactionState.Committed (cond b TransactionState.RollingBack (cond p TransactionState.Prepared TransactionState.Active))) ≡ a
    go true b p = refl
    go false true p = refl
    go false false true = refl
    go false false false = refl

module _ (log : List Record) (o : OpenRow) (t : ℕ) (k : IsKeptOf log o t) where
  kept-over : is_over o ≡ is_finished log t
  unfolding is_finished row_of
  kept-over = rw (k.row, k.left, none_counted (to_undo log t)) (rw (committed_state log t, is_prepared-state log t k.unended) refl)

-- ---- the first transaction with nothing to undo

find-over : (log : List Record) (es : List OpenRow) (ts : List ℕ) → Beside log es ts → (o : OpenRow) → find is_over es ≡ Some o → (t : ℕ) × (rest : List ℕ) × (filter (is_finished log) ts ≡ t ∷ rest) × IsKeptOf log o t
find-over log [] [] b o e = absurd (cc e)
find-over log [] (t ∷ ts) b o e = absurd b
find-over log (p ∷ es) [] b o e = absurd b
find-over log (p ∷ es) (t ∷ ts) b o e = elim (cases_Bool (is_over p)) [
  | inl y ↦
      let f : Some p ≡ Some o = (rw y at e) in
      let g : p ≡ o = cc f in
      (t, filter (is_finished log) ts, rw (sym (kept-over log p t b.0) ∙ y) refl, subst (λ o. IsKeptOf log o t) g b.0)
  | inr y ↦
      let f : find is_over es ≡ Some o = (rw y at e) in
      let r : (t : ℕ) × (rest : List ℕ) × (filter (is_finished log) ts ≡ t ∷ rest) × IsKeptOf log o t = find-over log es ts b.1 o f in
      (r.0, r.1, rw (sym (kept-over log p t b.0) ∙ y) r.2, r.3)
]

find-none : (log : List Record) (es : List OpenRow) (ts : List ℕ) → Beside log es ts → find is_over es ≡ None → filter (is_finished log) ts ≡ []
find-none log [] [] b e = refl
find-none log [] (t ∷ ts) b e = absurd b
find-none log (p ∷ es) [] b e = absurd b
find-none log (p ∷ es) (t ∷ ts) b e = elim (cases_Bool (is_over p)) [
  | inl y ↦ let f : Some p ≡ None = (rw y at e) in absurd (cc f)
  | inr y ↦ let f : find is_over es ≡ None = (rw y at e) in rw (sym (kept-over log p t b.0) ∙ y) (find-none log es ts b.1 f)
]

-- ---- one of the transactions

-- each one kept is of the transaction at its place
kept-at : (log : List Record) (es : List OpenRow) (ts : List ℕ) → Beside log es ts → (k : ℕ) (d : OpenRow) → k < length ts → IsKeptOf log (get_or es k d) (get_or ts k 0)
kept-at log [] [] b k d l = absurd (omega (arith, l))
kept-at log [] (t ∷ ts) b k d l = absurd b
kept-at log (o ∷ es) [] b k d l = absurd b
kept-at log (o ∷ es) (t ∷ ts) b zero d l = b.0
kept-at log (o ∷ es) (t ∷ ts) b (suc k) d l = kept-at log es ts b.1 k d (le_of_suc-le-suc l)

-- no record stands at 0
no_chain : (log : List Record) (t : ℕ) → is_valid log ≡ true → (us : List Record) → undo_chain 0 (backwards log t) ≡ us → us ≡ []
no_chain log t v [] e = refl
no_chain log t v (u ∷ us) e =
    let s : (r : Record) × ChainStep log t 0 r = undo_chain-step log t 0 u us v e in
    let down : goes_to s.0 s.0.body < 0 = s.1.down in
    absurd (omega arith)

-- ---- the first record of a tail

first-tail : (log : List Record) (step : TailStep) (rest : List TailStep) → tail_steps log ≡ step ∷ rest → first_of (tail_of log) ≡ Some (record_for log step)
unfolding tail_of numbered
first-tail log step rest e = ap (λ steps. first_of (numbered log steps)) e

module _ (log : List Record) (es : List OpenRow) (rows : rows_of es ≡ table_of log) (left : left_of es ≡ map (λ t. survivor_count log t % 2 ^ 64) (unended log)) (small : end_of log < 2 ^ 64) (end : ℕ) (at_end : end ≡ end_of log) where
  all_beside : Beside log es (unended log)
  unfolding table_of
  all_beside = beside log es (unended log) rows left (λ t. let n : survivor_count log t ≤ end_of log = survivor_count-below t log in omega arith) (All-unended log)

  pub as_many : length (unended log) ≡ length es
  unfolding table_of
  as_many = sym (length-map (unended log) (row_of log)) ∙ ap (λ (xs : List TransactionRow). length xs) (sym rows) ∙ length-map es (λ (o : OpenRow). o.row)

  -- an end, where a transaction has nothing to undo
  pub first-end : (o : OpenRow) → find is_over es ≡ Some o → Some (record { lsn = record { 0 = end }; prev = o.row.last; trans = o.row.trans; body = End }) ≡ first_of (tail_of log)
  unfolding tail_steps row_of
  first-end o e =
      let f : (t : ℕ) × (rest : List ℕ) × (filter (is_finished log) (unended log) ≡ t ∷ rest) × IsKeptOf log o t = find-over log es (unended log) all_beside o e in
      let s : tail_steps log ≡ Ends f.0 ∷ (ends f.1 ++ undoes (losing log)) = ap (λ ts. ends ts ++ undoes (losing log)) f.2 in
      ap (λ (n : ℕ). let found : Option Record = Some (record { lsn = record { 0 = n }; prev = o.row.last; trans = o.row.trans; body = End }) in found) at_end
      ∙ ap (λ (row : TransactionRow). let found : Option Record = Some (record { lsn = record { 0 = end_of log }; prev = row.last; trans = row.trans; body = End }) in found) f.3.row
      ∙ sym (first-tail log (Ends f.0) (ends f.1 ++ undoes (losing log)) s)

  module _ (n : find is_over es ≡ None) where
    none_over : filter (is_finished log) (unended log) ≡ []
    none_over = find-none log es (unended log) all_beside n

    -- each unended transaction that is not in doubt is a loser, of which an update survives
    unfinished : (t : ℕ) → is_unended log t ≡ true → is_in_doubt log t ≡ false → (is_committed log t ≡ false) × (is_some_left (to_undo log t) ≡ true)
    unfolding is_finished
    unfinished t u d = apart (is_committed log t) (is_some_left (to_undo log t)) (rw d at none_here)
      where
        alone : (a b : Bool) → b ≡ true → a ≡ (a && b)
        alone true b q = sym q
        alone false b q = refl

        none_here : (is_committed log t || (not (is_in_doubt log t) && not (is_some_left (to_undo log t)))) ≡ false
        none_here = alone (is_finished log t) (is_unended log t) u ∙ ap (λ b. is_finished log t && b) (sym (is_among-unended log t)) ∙ sym (is_among-filter (is_finished log) t (unended log)) ∙ ap (λ ts. is_among ts t) none_over

        apart : (a b : Bool) → (a || (not false && not b)) ≡ false → (a ≡ false) × (b ≡ true)
        apart true b e = absurd (false≢true (sym e))
        apart false true e = (refl, refl)
        apart false false e = absurd (false≢true (sym e))

    loser : (t : ℕ) → is_unended log t ≡ true → is_in_doubt log t ≡ false → is_loser log t ≡ true
    loser t u d = is_loser-from log t u (unfinished t u d).0 d

    begun : (t : ℕ) → is_loser log t ≡ true → is_unended log t ≡ true
    begun t l = (loser_parts log t l).0

    -- no record, where nothing is to be undone
    pub first-none : NoneToUndo log (unended log) → None ≡ first_of (tail_of log)
    unfolding tail_steps tail_of numbered undoes
    first-none none = sym (rw (none_over, losing-none log nobody) refl)
      where
        nobody : (t : ℕ) → is_loser log t ≡ true → to_undo log t ≡ []
        nobody t l =
            let r : (j : ℕ) × (j < length (unended log)) × (get_or (unended log) j 0 ≡ t) = among-index (unended log) t (is_among-unended log t ∙ begun t l) in
            let e : undoing log t ≡ [] = ap (undoing log) (sym r.2) ∙ none r.0 r.1 in
            (rw l at e)

    -- the undo of each goes on at its row's UndoNxtLSN, and that of one in doubt nowhere
    pub cursors-rows : is_valid log ≡ true → (cursors : List ℕ) → ((k : ℕ) (d : OpenRow) → k < length es → get_or cursors k 0 ≡ cursor_in (get_or es k d).row) → AreCursors log (unended log) cursors
    unfolding row_of
    cursors-rows v cursors are = record {
      chains = λ k l. elim (cases_Bool (is_in_doubt log (get_or (unended log) k 0))) [
        | inl d ↦
            let t : ℕ = get_or (unended log) k 0 in
            let n : is_loser log t ≡ false = doubtful t d in
            ap (λ n. undo_chain n (backwards log t)) (nowhere k l d) ∙ no_chain log t v (undo_chain 0 (backwards log t)) refl ∙ rw n refl
        | inr d ↦
            let t : ℕ = get_or (unended log) k 0 in
            let y : is_loser log t ≡ true = loser t (open_at k l) d in
            ap (λ n. undo_chain n (backwards log t)) (somewhere k l d) ∙ undo_chain-is log t v ∙ rw y refl
      ];
      some = λ k l up. elim (cases_Bool (is_in_doubt log (get_or (unended log) k 0))) [
        | inl d ↦ let z : get_or cursors k 0 ≡ 0 = nowhere k l d in absurd (omega arith)
        | inr d ↦ let y : is_loser log (get_or (unended log) k 0) ≡ true = loser (get_or (unended log) k 0) (open_at k l) d in rw y (unfinished (get_or (unended log) k 0) (open_at k l) d).1
      ];
    }
      where
        open_at : (k : ℕ) → k < length (unended log) → is_unended log (get_or (unended log) k 0) ≡ true
        open_at k l = sym (is_among-unended log (get_or (unended log) k 0)) ∙ index-among (unended log) k l

        doubtful : (t : ℕ) → is_in_doubt log t ≡ true → is_loser log t ≡ false
        doubtful t d = elim (cases_Bool (is_loser log t)) [
          | inr e ↦ e
          | inl e ↦ absurd (false≢true (sym (loser_parts log t e).2 ∙ d))
        ]

        kept : (k : ℕ) → k < length (unended log) → get_or cursors k 0 ≡ cursor_in (row_of log (get_or (unended log) k 0))
        kept k l = are k (fresh_open 0) (subst (λ n. k < n) as_many l) ∙ ap cursor_in (kept-at log es (unended log) all_beside k (fresh_open 0) l).row

        nowhere : (k : ℕ) → k < length (unended log) → is_in_doubt log (get_or (unended log) k 0) ≡ true → get_or cursors k 0 ≡ 0
        nowhere k l d = kept k l ∙ ap (λ b. cond b 0 (undo_next_of log (get_or (unended log) k 0))) (is_prepared-state log (get_or (unended log) k 0) (open_at k l) ∙ d)

        somewhere : (k : ℕ) → k < length (unended log) → is_in_doubt log (get_or (unended log) k 0) ≡ false → get_or cursors k 0 ≡ undo_next_of log (get_or (unended log) k 0)
        somewhere k l d = kept k l ∙ ap (λ b. cond b 0 (undo_next_of log (get_or (unended log) k 0))) (is_prepared-state log (get_or (unended log) k 0) (open_at k l) ∙ d)

    -- else the compensation of the greatest of all newest updates
    pub first-undo : is_valid log ≡ true → (k : ℕ) (d : OpenRow) (w : Record) → IsNewest log (unended log) k w → Some (undo_of (get_or es k d) (record { 0 = end }) w) ≡ first_of (tail_of log)
    unfolding tail_steps undoes row_of
    first-undo v k d w n = ap (λ (made : Record). let found : Option Record = Some made in found) made ∙ sym first
      where
        t : ℕ
        t = get_or (unended log) k 0

        o : OpenRow
        o = get_or es k d

        kept : IsKeptOf log o t
        kept = kept-at log es (unended log) all_beside k d n.within

        above : (s : ℕ) → is_loser log s ≡ true → (x : Record) (more : List Record) → to_undo log s ≡ x ∷ more → x.lsn.0 ≤ w.lsn.0
        above s l x more q =
            let r : (j : ℕ) × (j < length (unended log)) × (get_or (unended log) j 0 ≡ s) = among-index (unended log) s (is_among-unended log s ∙ begun s l) in
            n.top r.0 x more r.1 (ap (undoing log) r.2 ∙ rw l q)

        -- something of it is undone, so it is a loser
        lost : is_loser log t ≡ true
        lost = elim (cases_Bool (is_loser log t)) [
          | inl e ↦ e
          | inr e ↦ let f : [] ≡ w ∷ n.rest = (rw e at n.newest) in absurd (cc f)
        ]

        newest : to_undo log t ≡ w ∷ n.rest
        newest = (rw lost at n.newest)

        sweep : (us : List Record) × (losing log ≡ w ∷ us)
        sweep = losing-first log v t lost w n.rest newest above

        own : w.trans.0 ≡ t
        own = eqb-true w.trans.0 t (filter-first (is_by t) (all_surviving log) w n.rest (all_surviving-by t log ∙ newest))

        first : first_of (tail_of log) ≡ Some (record_for log (Undoes w))
        first = first-tail log (Undoes w) (cond (list_any (λ v. v.trans.0 == w.trans.0) sweep.0) (undoes sweep.0) (Ends w.trans.0 ∷ undoes sweep.0))
            (ap (λ ts. ends ts ++ undoes (losing log)) none_over ∙ ap undoes sweep.1)

        made : undo_of o (record { 0 = end }) w ≡ record_for log (Undoes w)
        made = ap (λ (n : ℕ). undo_of o (record { 0 = n }) w) at_end
            ∙ ap (λ (row : TransactionRow). let r : Record = record { lsn = record { 0 = end_of log }; prev = row.last; trans = row.trans; body = undone w.prev w.body } in r) kept.row
            ∙ ap (λ n. let r : Record = record { lsn = record { 0 = end_of log }; prev = record { 0 = last_lsn log n }; trans = record { 0 = n }; body = undone w.prev w.body } in r) (sym own)

-- ---- a step of the chains

-- where no cursor is above 0, nothing is to be undone
pub all_met : (log : List Record) (ts cursors : List ℕ) → is_valid log ≡ true → AreCursors log ts cursors → ((j : ℕ) → j < length ts → get_or cursors j 0 ≤ 0) → NoneToUndo log ts
all_met log ts cursors v are low j l =
    let z : get_or cursors j 0 ≡ 0 = omega (arith, low j l) in
    sym (are.chains j l) ∙ ap (λ n. undo_chain n (backwards log (get_or ts j 0))) z ∙ no_chain log (get_or ts j 0) v (undo_chain 0 (backwards log (get_or ts j 0))) refl

module _ (log : List Record) (ts cursors : List ℕ) (v : is_valid log ≡ true) (are : AreCursors log ts cursors) (k : ℕ) (lt : k < length ts) where
  abbrev pub t : ℕ
  t = get_or ts k 0

  abbrev pub here : ℕ
  here = get_or cursors k 0

  -- there is a record at each cursor above 0, of its transaction
  pub cursor-step : 0 < here → (r : Record) × ChainStep log t here r
  cursor-step up =
      let some : (w : Record) × (rest : List Record) × (undoing log t ≡ w ∷ rest) = is_some_left-first (undoing log t) (are.some k lt up) in
      undo_chain-step log t here some.0 some.1 v (are.chains k lt ∙ some.2)

  module _ (r : Record) (s : ChainStep log t here r) where
    -- an update at the greatest cursor is the newest of all
    pub cursor-newest : is_update r.body ≡ true → ((j : ℕ) → j < length ts → get_or cursors j 0 ≤ here) → IsNewest log ts k r
    cursor-newest e top = record {
      within = lt;
      rest = undo_chain r.prev.0 (backwards log t);
      newest = sym (are.chains k lt) ∙ undo_chain-update log t here r s e;
      top = λ j x more l q.
          let low : x.lsn.0 ≤ get_or cursors j 0 = undo_chain-first log (get_or ts j 0) (get_or cursors j 0) x more v (are.chains j l ∙ q) in
          let high : get_or cursors j 0 ≤ here = top j l in
          let at : r.lsn.0 ≡ here = s.place in
          omega arith;
    }

    -- it is one of the cursors, since none is below 0
    room : k < length cursors
    room = elim (cases_lt k (length cursors)) [
      | inl l ↦ l
      | inr ge ↦ let none : here ≡ 0 = get_or_past cursors k 0 ge in let down : goes_to r r.body < here = s.down in absurd (omega arith)
    ]

    -- behind another record the chain goes on where it goes to
    pub cursor-moved : is_update r.body ≡ false → AreCursors log ts (set cursors k (goes_to r r.body))
    cursor-moved e = record {
      chains = λ j l. elim (cases_eq j k) [
        | inl q ↦
            let moved : get_or (set cursors k (goes_to r r.body)) j 0 ≡ goes_to r r.body = ap (λ i. get_or (set cursors k (goes_to r r.body)) i 0) q ∙ get_or-set_same cursors k (goes_to r r.body) 0 room in
            ap (λ n. undo_chain n (backwards log (get_or ts j 0))) moved ∙ ap (λ i. undo_chain (goes_to r r.body) (backwards log (get_or ts i 0))) q ∙ sym (undo_chain-skip log t here r s e) ∙ are.chains k lt ∙ ap (λ i. undoing log (get_or ts i 0)) (sym q)
        | inr n ↦ ap (λ c. undo_chain c (backwards log (get_or ts j 0))) (get_or-set_other cursors k j (goes_to r r.body) 0 n) ∙ are.chains j l
      ];
      some = λ j l up. elim (cases_eq j k) [
        | inl q ↦ let high : goes_to r r.body < here = s.down in ap (λ i. is_some_left (undoing log (get_or ts i 0))) q ∙ are.some k lt (omega arith)
        | inr n ↦ are.some j l (subst (λ c. 0 < c) (get_or-set_other cursors k j (goes_to r r.body) 0 n) up)
      ];
    }

-- of no transaction anything is to be undone
none-left : (log : List Record) (ts : List ℕ) → length ts ≡ 0 → NoneToUndo log ts
none-left log ts e k l = absurd (omega (arith, e, l))

-- no record, where there is no row
pub none-tail : (log : List Record) (es : List OpenRow) → rows_of es ≡ table_of log → left_of es ≡ map (λ t. survivor_count log t % 2 ^ 64) (unended log) → end_of log < 2 ^ 64 → (end : ℕ) → end ≡ end_of log → length es ≡ 0
    → None ≡ first_of (tail_of log)
none-tail log es rows left small end at_end none =
    first-none log es rows left small end at_end (find-empty es none) (none-left log (unended log) (as_many log es rows left small end at_end ∙ none))
  where
    find-empty : (es : List OpenRow) → length es ≡ 0 → find is_over es ≡ None
    find-empty [] e = refl
    find-empty (o ∷ es) e = absurd (omega (arith, e))

-- ---- the transaction whose undo goes on at the greatest LSN

module _ (log : List Record) (es : List OpenRow) (end : ℕ) (h : AreUnfinished log end es) (at : ℕ) (lt : at < length es) (n : ℕ) (is : n ≡ cursor_in (get_or es at (fresh_open 0)).row) where
  heads : List ℕ
  heads = map (λ (o : OpenRow). cursor_in o.row) es

  head : (k : ℕ) (d : OpenRow) → k < length es → get_or heads k 0 ≡ cursor_in (get_or es k d).row
  unfolding heads
  head k d l = get_or-map (λ (o : OpenRow). cursor_in o.row) es k d 0 l

  are_heads : AreCursors log (unended log) heads
  are_heads = cursors-rows log es h.table h.left h.small end h.at_end h.none_over h.valid heads head

  many : length (unended log) ≡ length es
  many = as_many log es h.table h.left h.small end h.at_end

  there : at < length (unended log)
  there = omega (arith, lt, many)

  here_is : get_or heads at 0 ≡ n
  here_is = head at (fresh_open 0) lt ∙ sym is

  -- above 0 there is a record
  pub head-step : 0 < n → (r : Record) × ChainStep log (get_or (unended log) at 0) n r
  head-step up = subst (λ (m : ℕ). (r : Record) × ChainStep log (get_or (unended log) at 0) m r) here_is (cursor-step log (unended log) heads h.valid are_heads at there (rw here_is up))

  -- the heads of the others are no greater
  below_here : IsTop es at → (j : ℕ) → j < length (unended log) → get_or heads j 0 ≤ get_or heads at 0
  below_here top j l =
      let low : j < length es = omega (arith, l, many) in
      let a : get_or heads j 0 ≡ cursor_in (get_or es j (fresh_open 0)).row = head j (fresh_open 0) low in
      let b : get_or heads at 0 ≡ cursor_in (get_or es at (fresh_open 0)).row = head at (fresh_open 0) lt in
      let t : cursor_in (get_or es j (fresh_open 0)).row ≤ cursor_in (get_or es at (fresh_open 0)).row = top (fresh_open 0) j low in
      omega (arith, a, b, t)

  -- at 0 nothing is to be undone
  pub head-none : n ≡ 0 → IsTop es at → None ≡ first_of (tail_of log)
  head-none z top =
      first-none log es h.table h.left h.small end h.at_end h.none_over (all_met log (unended log) heads h.valid are_heads (λ j l.
      let q : get_or heads j 0 ≤ get_or heads at 0 = below_here top j l in
      let w : get_or heads at 0 ≡ 0 = here_is ∙ z in
      omega (arith, q, w)))

  -- an update is the one to be undone
  pub head-undo : (r : Record) → ChainStep log (get_or (unended log) at 0) n r → is_update r.body ≡ true → IsTop es at
      → Some (undo_of (get_or es at (fresh_open 0)) (record { 0 = end }) r) ≡ first_of (tail_of log)
  head-undo r s update top =
      let step : ChainStep log (get_or (unended log) at 0) (get_or heads at 0) r = subst (λ (m : ℕ). ChainStep log (get_or (unended log) at 0) m r) (sym here_is) s in
      let newest : IsNewest log (unended log) at r = cursor-newest log (unended log) heads h.valid are_heads at there r step update (below_here top) in
      first-undo log es h.table h.left h.small end h.at_end h.none_over h.valid at (fresh_open 0) r newest
