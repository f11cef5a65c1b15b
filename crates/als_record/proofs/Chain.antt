-- The undo chain of a transaction: from its UndoNxtLSN, by PrevLSNs of updates and UndoNxtLSNs of compensations, undo meets
-- exactly its surviving updates, the newest first.
use Rattle.std.proofs.Common.{◌≡◌, ℕ, ◌==◌, ◌+◌, ◌≤◌, ◌<◌, Bool, true, false, cond, not, ◌&&◌, ◌||◌, List, [], ◌∷◌, ◌++◌, drop, reverse, refl, sym, ap, ◌∙◌, inl, inr, subst, arith}
use Rattle.std.specs.List.{AllByRecursion}
use Rattle.std.proofs.lemmas.Bool.{cases_Bool, eqb-true, ne_eqb, false≢true, and_parts, not-false}
use Rattle.std.proofs.lemmas.List.{reverse-append}
use Rattle.als_record.specs.declared.lsn.Lsn.{Lsn}
use Rattle.als_record.specs.declared.key.Key.{Key}
use Rattle.als_record.specs.declared.record.Body.{Body}
use Rattle.als_record.specs.declared.record.Body.TheVariants.{Update, Compensation, Commit, Rollback, End, BeginCheckpoint, EndCheckpoint, Prepare}
use Rattle.als_record.specs.declared.record.Record.{Record}
use Rattle.als_record.specs.Spelling.{Image, record_len}
use Rattle.als_record.specs.LogText.{end_of}
use Rattle.als_record.specs.Transactions.{is_transactional, is_update, is_compensation, is_commit, is_rollback, is_end, is_prepare, is_decision, is_of, records_of, to_undo_after, to_undo, has_begun, is_committed, has_rollback, has_prepare, has_ended, is_unended, is_in_doubt, last_lsn, undo_next_after, undo_next_of}
use Rattle.als_record.specs.Validity.{prev_of, bad_prev, goes_on_after, wrong_undo_next, undoes_newest, wrong_compensation, is_valid}
use Rattle.als_record.proofs.Records.{records_of-own, records_of-other, records_of-none, to_undo-own, to_undo-other, last_lsn-own, last_lsn-other, undo_next_of-own, undo_next_of-other, is_committed-own, is_committed-other, has_rollback-own, has_rollback-other, has_prepare-own, has_prepare-other, has_ended-own, has_ended-other, has_ended-unended, has_begun-ended, has_prepare-none}
use Rattle.als_record.proofs.Numbers.{eqb-refl}
use Rattle.als_record.proofs.Survivors.{All-weaken}
use Rattle.als_record.proofs.Validity.{Admitted, valid_induction}
use Rattle.als_record.proofs.Sound.{Sound, Sound-valid, goes_on, states, only_ends, only_decides}
use Rattle.als_record.proofs.Places.{end_of-push, record_len-head}
use Rattle.als_record.specs.Orders.{Falling}
use Rattle.als_record.specs.UndoChain.{undone_at, goes_to, undo_chain, backwards}

-- ---- PrevLSN

-- a record that may follow names its transaction's last record, 0 without one
pub Admitted-prev : (log : List Record) (r : Record) → Sound log → Admitted log r → is_transactional r.body ≡ true → r.prev.0 ≡ last_lsn log r.trans.0
unfolding bad_prev prev_of last_lsn
Admitted-prev log r s a w =
    let e : (r.prev.0 == cond {A = ℕ} (is_unended log r.trans.0) (last_lsn log r.trans.0) 0) ≡ true = not-false _ (rw w at a.prev) in
    eqb-true r.prev.0 _ e ∙ elim (cases_Bool (has_begun log r.trans.0)) [
      | inl b ↦ rw (goes_on log r s a w b) refl
      | inr b ↦ rw (records_of-none log r.trans.0 b) (either (is_unended log r.trans.0))
    ]
  where
    either : (b : Bool) → ◌≡◌ {A = ℕ} (cond b 0 0) 0
    either true = refl
    either false = refl

-- ---- the chain

-- each record follows another one
abbrev pub follows : Record → Type 0
follows r = r.prev.0 < r.lsn.0

pub first_of_chain : (P : Record → Type 0) (n : ℕ) (rs : List Record) (u : Record) (us : List Record) → AllByRecursion P rs → undo_chain n rs ≡ u ∷ us → P u
unfolding undo_chain
first_of_chain P n [] u us a e = absurd (cc e)
first_of_chain P n (r ∷ rest) u us a e = elim (cases_Bool (r.lsn.0 == n)) [
  | inr y ↦ first_of_chain P n rest u us a.1 (rw y at e)
  | inl y ↦ go r.body (rw y at e) (λ m f. first_of_chain P m rest u us a.1 f)
]
  where
    go : (b : Body) → undone_at r b ++ undo_chain (goes_to r b) rest ≡ u ∷ us → ((m : ℕ) → undo_chain m rest ≡ u ∷ us → P u) → P u
    go (Update key before after) f next = let g : r ≡ u = cc f in subst P g a.0
    go (Compensation undo_next key after) f next = next undo_next.0 f
    go Commit f next = next r.prev.0 f
    go Rollback f next = next r.prev.0 f
    go End f next = next r.prev.0 f
    go BeginCheckpoint f next = next r.prev.0 f
    go (EndCheckpoint transactions pages) f next = next r.prev.0 f
    go Prepare f next = next r.prev.0 f

-- behind its first update the chain goes on at that update's PrevLSN
chain_rest : (n : ℕ) (rs : List Record) (u : Record) (us : List Record) → Falling rs → AllByRecursion follows rs → undo_chain n rs ≡ u ∷ us → undo_chain u.prev.0 rs ≡ us
unfolding undo_chain
chain_rest n [] u us f a e = absurd (cc e)
chain_rest n (r ∷ rest) u us f a e = elim (cases_Bool (r.lsn.0 == n)) [
  | inr y ↦ later n (rw y at e) (chain_rest n rest u us f.1 a.1 (rw y at e))
  | inl y ↦ go r.body (rw y at e) (λ m g. later m g (chain_rest m rest u us f.1 a.1 g))
]
  where
    -- the first update stands below this record
    later : (m : ℕ) → undo_chain m rest ≡ u ∷ us → undo_chain u.prev.0 rest ≡ us → undo_chain u.prev.0 (r ∷ rest) ≡ us
    later m g h =
        let below : u.lsn.0 < r.lsn.0 = first_of_chain (λ v. v.lsn.0 < r.lsn.0) m rest u us f.0 g in
        let up : u.prev.0 < u.lsn.0 = first_of_chain follows m rest u us a.1 g in
        let d : (r.lsn.0 == u.prev.0) ≡ false = ne_eqb r.lsn.0 u.prev.0 (omega arith) in
        rw d h

    go : (b : Body) → undone_at r b ++ undo_chain (goes_to r b) rest ≡ u ∷ us → ((m : ℕ) → undo_chain m rest ≡ u ∷ us → undo_chain u.prev.0 (r ∷ rest) ≡ us) → undo_chain u.prev.0 (r ∷ rest) ≡ us
    go (Update key before after) g next =
        let q : r ≡ u = cc g in
        let m : undo_chain r.prev.0 rest ≡ us = cc g in
        let up : r.prev.0 < r.lsn.0 = a.0 in
        let d : (r.lsn.0 == r.prev.0) ≡ false = ne_eqb r.lsn.0 r.prev.0 (omega arith) in
        let h : undo_chain r.prev.0 (r ∷ rest) ≡ us = rw d m in
        ap (λ (v : Record). undo_chain v.prev.0 (r ∷ rest)) (sym q) ∙ h
    go (Compensation undo_next key after) g next = next undo_next.0 g
    go Commit g next = next r.prev.0 g
    go Rollback g next = next r.prev.0 g
    go End g next = next r.prev.0 g
    go BeginCheckpoint g next = next r.prev.0 g
    go (EndCheckpoint transactions pages) g next = next r.prev.0 g
    go Prepare g next = next r.prev.0 g

-- ---- what each valid log keeps

-- neither committed nor rolling back nor ended nor prepared
pub is_busy : List Record → ℕ → Bool
is_busy log t = not (is_committed log t) && not (has_rollback log t) && not (has_ended log t) && not (has_prepare log t)

is_busy-other : (log : List Record) (r : Record) (t : ℕ) → is_of t r ≡ false → is_busy (log ++ r ∷ []) t ≡ is_busy log t
unfolding is_busy
is_busy-other log r t o = cc (is_committed-other log r t o, has_rollback-other log r t o, has_ended-other log r t o, has_prepare-other log r t o)

pub record Threaded (log : List Record) (t : ℕ) : Type 0 where
  pub chain : undo_chain (undo_next_of log t) (backwards log t) ≡ to_undo log t
  pub link : is_busy log t ≡ true → undo_chain (last_lsn log t) (backwards log t) ≡ undo_chain (undo_next_of log t) (backwards log t)
  pub falling : Falling (backwards log t)
  pub below : AllByRecursion (λ u. u.lsn.0 < end_of log) (backwards log t)
  pub follow : AllByRecursion follows (backwards log t)
  pub onward : AllByRecursion (λ u. goes_to u u.body < u.lsn.0) (backwards log t)
  pub last_below : last_lsn log t < end_of log
  pub next_below : undo_next_of log t < end_of log

module _ (log : List Record) (r : Record) (s : Sound log) (a : Admitted log r) where
  grown : end_of (log ++ r ∷ []) ≡ end_of log + record_len r
  grown = end_of-push log r

  -- another transaction's records stay as they are
  Threaded-other : (t : ℕ) → is_of t r ≡ false → Threaded log t → Threaded (log ++ r ∷ []) t
  Threaded-other t o h =
      let same : backwards (log ++ r ∷ []) t ≡ backwards log t = ap reverse (records_of-other log r t o) in
      let last : last_lsn (log ++ r ∷ []) t ≡ last_lsn log t = last_lsn-other log r t o in
      let next : undo_next_of (log ++ r ∷ []) t ≡ undo_next_of log t = undo_next_of-other log r t o in
      let g : end_of (log ++ r ∷ []) ≡ end_of log + record_len r = grown in
      let lb : last_lsn log t < end_of log = h.last_below in
      let nb : undo_next_of log t < end_of log = h.next_below in
      record {
        chain = rw (same, next) (h.chain ∙ sym (to_undo-other log r t o));
        link = λ c. rw (same, next, last) (h.link (sym (is_busy-other log r t o) ∙ c));
        falling = rw same h.falling;
        below = rw same (All-weaken (λ u. u.lsn.0 < end_of log) (λ u. u.lsn.0 < end_of (log ++ r ∷ [])) (λ u b. omega arith) (backwards log t) h.below);
        follow = rw same h.follow;
        onward = rw same h.onward;
        last_below = rw last (omega arith);
        next_below = rw next (omega arith);
      }

  -- its own record
  module _ (w : is_transactional r.body ≡ true) (h : Threaded log r.trans.0) where
    own : is_of r.trans.0 r ≡ true
    own = rw (w, eqb-refl r.trans.0) refl

    longer : backwards (log ++ r ∷ []) r.trans.0 ≡ r ∷ backwards log r.trans.0
    longer = ap reverse (records_of-own log r r.trans.0 own) ∙ reverse-append (records_of log r.trans.0) (r ∷ [])

    follows_last : follows r
    follows_last =
        let p : r.prev.0 ≡ last_lsn log r.trans.0 = Admitted-prev log r s a w in
        let lb : last_lsn log r.trans.0 < end_of log = h.last_below in
        let q : r.lsn.0 ≡ end_of log = a.place in
        omega arith

    falling-own : Falling (backwards (log ++ r ∷ []) r.trans.0)
    falling-own = rw longer (All-weaken (λ u. u.lsn.0 < end_of log) (λ u. u.lsn.0 < r.lsn.0) (λ u b. rw a.place b) (backwards log r.trans.0) h.below, h.falling)

    below-own : AllByRecursion (λ u. u.lsn.0 < end_of (log ++ r ∷ [])) (backwards (log ++ r ∷ []) r.trans.0)
    below-own =
        let g : end_of (log ++ r ∷ []) ≡ end_of log + record_len r = grown in
        let n : 28 ≤ record_len r = record_len-head r in
        let q : r.lsn.0 ≡ end_of log = a.place in
        rw longer (omega arith, All-weaken (λ u. u.lsn.0 < end_of log) (λ u. u.lsn.0 < end_of (log ++ r ∷ [])) (λ u b. omega arith) (backwards log r.trans.0) h.below)

    follow-own : AllByRecursion follows (backwards (log ++ r ∷ []) r.trans.0)
    follow-own = rw longer (follows_last, h.follow)

    onward-own : goes_to r r.body < r.lsn.0 → AllByRecursion (λ u. goes_to u u.body < u.lsn.0) (backwards (log ++ r ∷ []) r.trans.0)
    onward-own g = rw longer (g, h.onward)

    last-own : last_lsn (log ++ r ∷ []) r.trans.0 < end_of (log ++ r ∷ [])
    last-own =
        let l : last_lsn (log ++ r ∷ []) r.trans.0 ≡ r.lsn.0 = last_lsn-own log r r.trans.0 own in
        let g : end_of (log ++ r ∷ []) ≡ end_of log + record_len r = grown in
        let n : 28 ≤ record_len r = record_len-head r in
        let q : r.lsn.0 ≡ end_of log = a.place in
        omega arith

    -- ---- by kinds

    module _ (key : Key) (before after : Image) (b : r.body ≡ Update key before after) where
      busy : is_busy log r.trans.0 ≡ true
      unfolding is_busy is_in_doubt
      busy =
          let c : is_committed log r.trans.0 ≡ false = only_ends log r s a (ap is_end b) in
          let f : (has_rollback log r.trans.0 && true && true) ≡ false = (rw (c, b) at (states log r s a).1) in
          let k : has_rollback log r.trans.0 ≡ false = forward (has_rollback log r.trans.0) f in
          rw (c, not_ended, k, not_prepared c k) refl
        where
          -- not in doubt, so it has prepared only if it has not begun
          not_prepared : is_committed log r.trans.0 ≡ false → has_rollback log r.trans.0 ≡ false → has_prepare log r.trans.0 ≡ false
          not_prepared c k = elim (cases_Bool (has_begun log r.trans.0)) [
            | inr n ↦ has_prepare-none log r.trans.0 n
            | inl y ↦ doubtless (goes_on log r s a w y) c k (only_decides log r s a (ap is_decision b))
          ]
            where
              doubtless : is_unended log r.trans.0 ≡ true → is_committed log r.trans.0 ≡ false → has_rollback log r.trans.0 ≡ false → is_in_doubt log r.trans.0 ≡ false → has_prepare log r.trans.0 ≡ false
              doubtless u c k d = last (has_prepare log r.trans.0) (rw (u, c, k) at d)
                where
                  last : (p : Bool) → (true && p && true && true) ≡ false → p ≡ false
                  last true e = e
                  last false e = refl

          forward : (x : Bool) → (x && true && true) ≡ false → x ≡ false
          forward true e = e
          forward false e = e

          not_ended : has_ended log r.trans.0 ≡ false
          not_ended = elim (cases_Bool (has_ended log r.trans.0)) [
            | inr e ↦ e
            | inl e ↦ has_ended-unended log r.trans.0 (goes_on log r s a w (has_begun-ended log r.trans.0 e))
          ]

      Threaded-update : Threaded (log ++ r ∷ []) r.trans.0
      unfolding undo_chain
      Threaded-update =
          let next : undo_next_of (log ++ r ∷ []) r.trans.0 ≡ r.lsn.0 = undo_next_of-own log r r.trans.0 own ∙ ap (undo_next_after (undo_next_of log r.trans.0) r.lsn.0) b in
          let last : last_lsn (log ++ r ∷ []) r.trans.0 ≡ r.lsn.0 = last_lsn-own log r r.trans.0 own in
          let left : to_undo (log ++ r ∷ []) r.trans.0 ≡ r ∷ to_undo log r.trans.0 = to_undo-own log r r.trans.0 own ∙ ap (to_undo_after (to_undo log r.trans.0) r) b in
          let before_it : undo_chain r.prev.0 (backwards log r.trans.0) ≡ to_undo log r.trans.0 = ap (λ n. undo_chain n (backwards log r.trans.0)) (Admitted-prev log r s a w) ∙ h.link busy ∙ h.chain in
          let lb : last_lsn (log ++ r ∷ []) r.trans.0 < end_of (log ++ r ∷ []) = last-own in
          record {
            chain = rw (longer, next, left, eqb-refl r.lsn.0) (ap (λ x. undone_at r x ++ undo_chain (goes_to r x) (backwards log r.trans.0)) b ∙ ap (λ us. r ∷ us) before_it);
            link = λ c. ap (λ n. undo_chain n (backwards (log ++ r ∷ []) r.trans.0)) (last ∙ sym next);
            falling = falling-own;
            below = below-own;
            follow = follow-own;
            onward = onward-own (rw b follows_last);
            last_below = last-own;
            next_below = omega arith;
          }

    module _ (undo_next : Lsn) (key : Key) (after : Image) (b : r.body ≡ Compensation undo_next key after) where
      undoes : (left : List Record) → undoes_newest left (Compensation undo_next key after) ≡ true → goes_on_after left (Compensation undo_next key after) ≡ true → (u : Record) × (rest : List Record) × (left ≡ u ∷ rest) × (undo_next.0 ≡ u.prev.0)
      undoes [] e g = absurd (false≢true e)
      undoes (u ∷ rest) e g = (u, rest, refl, eqb-true undo_next.0 u.prev.0 g)

      undone_one : (u : Record) × (rest : List Record) × (to_undo log r.trans.0 ≡ u ∷ rest) × (undo_next.0 ≡ u.prev.0)
      unfolding wrong_compensation wrong_undo_next
      undone_one = undoes (to_undo log r.trans.0)
          (ap (undoes_newest (to_undo log r.trans.0)) (sym b) ∙ not-false (undoes_newest (to_undo log r.trans.0) r.body) a.compensation)
          (ap (goes_on_after (to_undo log r.trans.0)) (sym b) ∙ not-false (goes_on_after (to_undo log r.trans.0) r.body) a.next)

      chained : undo_chain (undo_next_of log r.trans.0) (backwards log r.trans.0) ≡ undone_one.0 ∷ undone_one.1
      chained = h.chain ∙ undone_one.2

      next_low : undo_next.0 < end_of log
      next_low =
          let e : undo_next.0 ≡ undone_one.0.prev.0 = undone_one.3 in
          let p : undone_one.0.prev.0 < undone_one.0.lsn.0 = first_of_chain follows (undo_next_of log r.trans.0) (backwards log r.trans.0) undone_one.0 undone_one.1 h.follow chained in
          let q : undone_one.0.lsn.0 < end_of log = first_of_chain (λ u. u.lsn.0 < end_of log) (undo_next_of log r.trans.0) (backwards log r.trans.0) undone_one.0 undone_one.1 h.below chained in
          omega arith

      rest_chained : undo_chain undo_next.0 (backwards log r.trans.0) ≡ undone_one.1
      rest_chained = ap (λ n. undo_chain n (backwards log r.trans.0)) undone_one.3 ∙ chain_rest (undo_next_of log r.trans.0) (backwards log r.trans.0) undone_one.0 undone_one.1 h.falling h.follow chained

      Threaded-compensation : Threaded (log ++ r ∷ []) r.trans.0
      unfolding undo_chain
      Threaded-compensation =
          let next : undo_next_of (log ++ r ∷ []) r.trans.0 ≡ undo_next.0 = undo_next_of-own log r r.trans.0 own ∙ ap (undo_next_after (undo_next_of log r.trans.0) r.lsn.0) b in
          let last : last_lsn (log ++ r ∷ []) r.trans.0 ≡ r.lsn.0 = last_lsn-own log r r.trans.0 own in
          let left : to_undo (log ++ r ∷ []) r.trans.0 ≡ undone_one.1 = to_undo-own log r r.trans.0 own ∙ ap (to_undo_after (to_undo log r.trans.0) r) b ∙ ap (drop 1) undone_one.2 in
          let low : undo_next.0 < end_of log = next_low in
          let q : r.lsn.0 ≡ end_of log = a.place in
          let g : end_of (log ++ r ∷ []) ≡ end_of log + record_len r = grown in
          let d : (r.lsn.0 == undo_next.0) ≡ false = ne_eqb r.lsn.0 undo_next.0 (omega arith) in
          record {
            chain = rw (longer, next, left, d) rest_chained;
            link = λ c. rw (longer, next, last, d, eqb-refl r.lsn.0) (ap (λ x. undone_at r x ++ undo_chain (goes_to r x) (backwards log r.trans.0)) b);
            falling = falling-own;
            below = below-own;
            follow = follow-own;
            onward = onward-own (rw b (omega arith));
            last_below = last-own;
            next_below = omega arith;
          }

    module _ (quiet : is_update r.body ≡ false) (quiet_too : is_compensation r.body ≡ false) where
      kept : (b : Body) → is_update b ≡ false → is_compensation b ≡ false → (undo_next_after (undo_next_of log r.trans.0) r.lsn.0 b ≡ undo_next_of log r.trans.0) × (to_undo_after (to_undo log r.trans.0) r b ≡ to_undo log r.trans.0)
      kept (Update key before after) u c = absurd (false≢true (sym u))
      kept (Compensation undo_next key after) u c = absurd (false≢true (sym c))
      kept Commit u c = (refl, refl)
      kept Rollback u c = (refl, refl)
      kept End u c = (refl, refl)
      kept BeginCheckpoint u c = (refl, refl)
      kept (EndCheckpoint transactions pages) u c = (refl, refl)
      kept Prepare u c = (refl, refl)

      onto : (b : Body) → is_compensation b ≡ false → goes_to r b ≡ r.prev.0
      onto (Update key before after) c = refl
      onto (Compensation undo_next key after) c = absurd (false≢true (sym c))
      onto Commit c = refl
      onto Rollback c = refl
      onto End c = refl
      onto BeginCheckpoint c = refl
      onto (EndCheckpoint transactions pages) c = refl
      onto Prepare c = refl

      idle : is_busy (log ++ r ∷ []) r.trans.0 ≡ true → ⊥
      unfolding is_busy
      idle e = go r.body quiet quiet_too w (rw (is_committed-own log r r.trans.0 own, has_rollback-own log r r.trans.0 own, has_ended-own log r r.trans.0 own, has_prepare-own log r r.trans.0 own) at e)
        where
          over : (x y z v : Bool) → (not (x || true) && y && z && v) ≡ true → ⊥
          over true y z v e = false≢true e
          over false y z v e = false≢true e

          over2 : (x y z v : Bool) → (x && not (y || true) && z && v) ≡ true → ⊥
          over2 true true z v e = false≢true e
          over2 true false z v e = false≢true e
          over2 false y z v e = false≢true e

          over3 : (x y z v : Bool) → (x && y && not (z || true) && v) ≡ true → ⊥
          over3 true true true v e = false≢true e
          over3 true true false v e = false≢true e
          over3 true false z v e = false≢true e
          over3 false y z v e = false≢true e

          over4 : (x y z v : Bool) → (x && y && z && not (v || true)) ≡ true → ⊥
          over4 true true true true e = false≢true e
          over4 true true true false e = false≢true e
          over4 true true false v e = false≢true e
          over4 true false z v e = false≢true e
          over4 false y z v e = false≢true e

          go : (b : Body) → is_update b ≡ false → is_compensation b ≡ false → is_transactional b ≡ true → (not (is_committed log r.trans.0 || is_commit b) && not (has_rollback log r.trans.0 || is_rollback b) && not (has_ended log r.trans.0 || is_end b) && not (has_prepare log r.trans.0 || is_prepare b)) ≡ true → ⊥
          go (Update key before after) u c t e = false≢true (sym u)
          go (Compensation undo_next key after) u c t e = false≢true (sym c)
          go Commit u c t e = over (is_committed log r.trans.0) (not (has_rollback log r.trans.0 || false)) (not (has_ended log r.trans.0 || false)) (not (has_prepare log r.trans.0 || false)) e
          go Rollback u c t e = over2 (not (is_committed log r.trans.0 || false)) (has_rollback log r.trans.0) (not (has_ended log r.trans.0 || false)) (not (has_prepare log r.trans.0 || false)) e
          go End u c t e = over3 (not (is_committed log r.trans.0 || false)) (not (has_rollback log r.trans.0 || false)) (has_ended log r.trans.0) (not (has_prepare log r.trans.0 || false)) e
          go BeginCheckpoint u c t e = false≢true t
          go (EndCheckpoint transactions pages) u c t e = false≢true t
          go Prepare u c t e = over4 (not (is_committed log r.trans.0 || false)) (not (has_rollback log r.trans.0 || false)) (not (has_ended log r.trans.0 || false)) (has_prepare log r.trans.0) e

      Threaded-quiet : Threaded (log ++ r ∷ []) r.trans.0
      unfolding undo_chain
      Threaded-quiet =
          let next : undo_next_of (log ++ r ∷ []) r.trans.0 ≡ undo_next_of log r.trans.0 = undo_next_of-own log r r.trans.0 own ∙ (kept r.body quiet quiet_too).0 in
          let left : to_undo (log ++ r ∷ []) r.trans.0 ≡ to_undo log r.trans.0 = to_undo-own log r r.trans.0 own ∙ (kept r.body quiet quiet_too).1 in
          let low : undo_next_of log r.trans.0 < end_of log = h.next_below in
          let q : r.lsn.0 ≡ end_of log = a.place in
          let g : end_of (log ++ r ∷ []) ≡ end_of log + record_len r = grown in
          let d : (r.lsn.0 == undo_next_of log r.trans.0) ≡ false = ne_eqb r.lsn.0 (undo_next_of log r.trans.0) (omega arith) in
          record {
            chain = rw (longer, next, left, d) h.chain;
            link = λ c. absurd (idle c);
            falling = falling-own;
            below = below-own;
            follow = follow-own;
            onward = onward-own (rw (onto r.body quiet_too) follows_last);
            last_below = last-own;
            next_below = omega arith;
          }

    Threaded-own : Threaded (log ++ r ∷ []) r.trans.0
    Threaded-own = go r.body refl
      where
        go : (b : Body) → r.body ≡ b → Threaded (log ++ r ∷ []) r.trans.0
        go (Update key before after) e = Threaded-update key before after e
        go (Compensation undo_next key after) e = Threaded-compensation undo_next key after e
        go Commit e = Threaded-quiet (ap is_update e) (ap is_compensation e)
        go Rollback e = Threaded-quiet (ap is_update e) (ap is_compensation e)
        go End e = Threaded-quiet (ap is_update e) (ap is_compensation e)
        go BeginCheckpoint e = Threaded-quiet (ap is_update e) (ap is_compensation e)
        go (EndCheckpoint transactions pages) e = Threaded-quiet (ap is_update e) (ap is_compensation e)
        go Prepare e = Threaded-quiet (ap is_update e) (ap is_compensation e)

  Threaded-push : (t : ℕ) → Threaded log t → Threaded (log ++ r ∷ []) t
  Threaded-push t h = elim (cases_Bool (is_of t r)) [
    | inr o ↦ Threaded-other t o h
    | inl o ↦
        let p : (is_transactional r.body ≡ true) × ((r.trans.0 == t) ≡ true) = and_parts (is_transactional r.body) (r.trans.0 == t) o in
        let q : r.trans.0 ≡ t = eqb-true r.trans.0 t p.1 in
        subst (Threaded (log ++ r ∷ [])) q (Threaded-own p.0 (subst (Threaded log) (sym q) h))
  ]

Threaded-nil : (t : ℕ) → Threaded [] t
unfolding undo_chain undo_next_of last_lsn to_undo records_of end_of
Threaded-nil t = record { chain = refl; link = λ c. refl; falling = tt; below = tt; follow = tt; onward = tt; last_below = omega arith; next_below = omega arith }

pub Threaded-valid : (log : List Record) → is_valid log ≡ true → (t : ℕ) → Threaded log t
Threaded-valid log v t = valid_induction (λ l. Threaded l t) (Threaded-nil t) (λ l r w h a. Threaded-push l r (Sound-valid l w) a t h) log v

-- in a valid log, undo from a transaction's UndoNxtLSN meets its surviving updates
pub undo_chain-is : (log : List Record) (t : ℕ) → is_valid log ≡ true → undo_chain (undo_next_of log t) (backwards log t) ≡ to_undo log t
undo_chain-is log t v = (Threaded-valid log v t).chain
