-- The causes, as tests of a transaction's row and newest surviving update.
use Rattle.std.proofs.Common.{◌≡◌, ℕ, ◌==◌, ◌+◌, ◌-◌, ◌≤◌, ◌<◌, nat_le, nat_lt, Bool, true, false, cond, not, ◌&&◌, ◌||◌, List, [], ◌∷◌, ◌++◌, length, reverse, Option, Some, None, refl, sym, ap, ◌∙◌, inl, inr, ◌⊎◌, arith, length-append, Bor}
use Rattle.std.specs.Prelude.{slice_get, option_copied, is_some, is_none}
use Rattle.std.proofs.lemmas.Bool.{cases_Bool, true≢false, leb-false}
use Rattle.std.proofs.lemmas.List.{reverse-append}
use Rattle.std.proofs.lemmas.List.Folds.{list_any-append}
use Rattle.std.proofs.lemmas.Bool.Decides.{nat_tests}
use Rattle.als_record.specs.declared.trans_id.TransId.{TransId}
use Rattle.als_record.specs.declared.record.Body.{Body}
use Rattle.als_record.specs.declared.record.Body.TheVariants.{Update, Compensation, Commit, Rollback, End, BeginCheckpoint, EndCheckpoint, Prepare}
use Rattle.als_record.specs.declared.record.Record.{Record}
use Rattle.als_record.specs.declared.transaction_state.TransactionState.TheVariants.{Active, Committed, RollingBack, Prepared}
use Rattle.als_record.specs.declared.transaction_row.TransactionRow.{TransactionRow}
use Rattle.als_record.specs.Transactions.{records_of, is_transactional, is_commit, is_end, is_decision, is_of, is_some_left, to_undo, is_committed, has_rollback, has_prepare, has_begun, is_unended, is_open, is_in_doubt, last_lsn, unended, greatest_trans}
use Rattle.als_record.specs.Table.{is_prepared, state_of, row_of}
use Rattle.als_record.specs.Validity.{prev_of, old_transaction, is_forward, wrong_state, goes_on_after, wrong_undo_next, undoes_newest, wrong_compensation, too_many, is_valid}
use Rattle.als_record.proofs.Records.{is_unended-none, is_committed-own, is_committed-other, is_committed-none, has_rollback-none, has_prepare-none, is_in_doubt-over, to_undo-none}
use Rattle.als_record.proofs.Unended.{length-unended_more, length-unended_end, length-unended_new, length-unended_new_end, length-unended_checkpoint, is_prepared-state}
use Rattle.als_analysis.proofs.LogSteps.{not_begun}
use Rattle.als_validator.specs.Seen.{first_of, AreCommitted}
use Rattle.als_validator.specs.Tests.{state_in, last_in, goes_on, barred, skips, misses}
use Rattle.als_validator.proofs.Bounds.{few_unended}

-- the last of a list that is turned round is its first
get-push : (us : List Record) (u : Record) (n : ℕ) → n ≡ length us → slice_get (us ++ u ∷ []) n ≡ Some u
get-push [] u n e = rw e refl
get-push (v ∷ us) u n e = rw e (get-push us u (length us) refl)

pub last-reverse : (us : List Record) → slice_get (reverse us) (length (reverse us) - 1) ≡ first_of us
last-reverse [] = refl
last-reverse (u ∷ rest) =
    let e : reverse (u ∷ rest) ≡ reverse rest ++ u ∷ [] = reverse-append (u ∷ []) rest in
    let n : length (reverse rest ++ u ∷ []) - 1 ≡ length (reverse rest) = rw length-append (omega arith) in
    rw e (get-push (reverse rest) u (length (reverse rest ++ u ∷ []) - 1) n)

-- ---- what a row says

-- the past of a transaction says all that the log does: it is unended, or to be
pub known_of : (log : List Record) (r : Record) → is_transactional r.body ≡ true → old_transaction log r ≡ false → (is_unended log r.trans.0 ≡ true) ⊎ (has_begun log r.trans.0 ≡ false)
unfolding old_transaction
known_of log r w o = elim (cases_Bool (is_unended log r.trans.0)) [
  | inl e ↦ inl e
  | inr e ↦
      let above : greatest_trans log < r.trans.0 = leb-false r.trans.0 (greatest_trans log) (rw (w, e) at o) in
      inr (not_begun log r.trans.0 above)
]

module _ (log : List Record) (t : ℕ) (known : (is_unended log t ≡ true) ⊎ (has_begun log t ≡ false)) where
  pub state_in-known : (row : Option TransactionRow) → row ≡ cond (is_unended log t) (Some (row_of log t)) None → state_in row ≡ state_of log t
  unfolding row_of state_of
  state_in-known row e = elim known [
    | inl u ↦ ap state_in e ∙ rw u refl
    | inr n ↦ ap state_in e ∙ rw (is_unended-none log t n, is_committed-none log t n, has_rollback-none log t n, has_prepare-none log t n) refl
  ]

  pub newest-known : (newest : Option Record) → newest ≡ cond (is_unended log t) (first_of (to_undo log t)) None → newest ≡ first_of (to_undo log t)
  newest-known newest e = elim known [
    | inl u ↦ e ∙ rw u refl
    | inr n ↦ e ∙ rw (is_unended-none log t n, to_undo-none log t n) refl
  ]

-- in doubt: prepared, and neither committed nor rolling back
pub in_doubt-known : (log : List Record) (t : ℕ) → (is_unended log t ≡ true) ⊎ (has_begun log t ≡ false) → is_in_doubt log t ≡ (has_prepare log t && not (is_committed log t) && not (has_rollback log t))
unfolding is_in_doubt
in_doubt-known log t known = elim known [
  | inl u ↦ rw u refl
  | inr n ↦ rw (is_unended-none log t n, has_prepare-none log t n) refl
]

-- and so the state of a row says, where there is one
pub in_doubt-row : (log : List Record) (t : ℕ) (row : Option TransactionRow) → row ≡ cond (is_unended log t) (Some (row_of log t)) None → is_prepared (state_in row) ≡ is_in_doubt log t
unfolding row_of
in_doubt-row log t row e = elim (cases_Bool (is_unended log t)) [
  | inl u ↦ ap (λ x. is_prepared (state_in x)) e ∙ rw u (is_prepared-state log t u)
  | inr u ↦ ap (λ x. is_prepared (state_in x)) e ∙ rw u (sym (is_in_doubt-over log t u))
]

pub is_some-first : (us : List Record) → is_some (first_of us) ≡ is_some_left us
is_some-first [] = refl
is_some-first (u ∷ rest) = refl

pub last_in-row : (log : List Record) (t : ℕ) (row : Option TransactionRow) → row ≡ cond (is_unended log t) (Some (row_of log t)) None → last_in row ≡ prev_of log t
unfolding row_of prev_of
last_in-row log t row e = ap last_in e ∙ go (is_unended log t)
  where
    go : (b : Bool) → last_in (cond b (Some (row_of log t)) None) ≡ cond b (last_lsn log t) 0
    go true = refl
    go false = refl

pub is_none-row : (log : List Record) (t : ℕ) (row : Option TransactionRow) → row ≡ cond (is_unended log t) (Some (row_of log t)) None → is_none row ≡ not (is_unended log t)
is_none-row log t row e = ap is_none e ∙ go (is_unended log t)
  where
    go : (b : Bool) → is_none (cond b (Some (row_of log t)) None) ≡ not b
    go true = refl
    go false = refl

-- ---- the causes

pub wrong_state-barred : (log : List Record) (r : Record) → (is_unended log r.trans.0 ≡ true) ⊎ (has_begun log r.trans.0 ≡ false) → wrong_state log r ≡ barred (state_of log r.trans.0) (is_some_left (to_undo log r.trans.0)) r.body
unfolding wrong_state state_of
wrong_state-barred log r known = rw (in_doubt-known log r.trans.0 known) (go (is_committed log r.trans.0) (has_rollback log r.trans.0) (has_prepare log r.trans.0) (is_some_left (to_undo log r.trans.0)) r.body)
  where
    go : (c h p l : Bool) (b : Body) → ((c && not (is_end b)) || (h && not c && is_forward b) || ((p && not c && not h) && not (is_decision b)) || (is_end b && not c && l)) ≡ barred (cond c Committed (cond h RollingBack (cond p Prepared Active))) l b
    go true true true l (Update key before after) = refl
    go true true true l (Compensation undo_next key after) = refl
    go true true true l Commit = refl
    go true true true l Rollback = refl
    go true true true l End = refl
    go true true true l BeginCheckpoint = refl
    go true true true l (EndCheckpoint transactions pages) = refl
    go true true true l Prepare = refl
    go true true false l (Update key before after) = refl
    go true true false l (Compensation undo_next key after) = refl
    go true true false l Commit = refl
    go true true false l Rollback = refl
    go true true false l End = refl
    go true true false l BeginCheckpoint = refl
    go true true false l (EndCheckpoint transactions pages) = refl
    go true true false l Prepare = refl
    go true false true l (Update key before after) = refl
    go true false true l (Compensation undo_next key after) = refl
    go true false true l Commit = refl
    go true false true l Rollback = refl
    go true false true l End = refl
    go true false true l BeginCheckpoint = refl
    go true false true l (EndCheckpoint transactions pages) = refl
    go true false true l Prepare = refl
    go true false false l (Update key before after) = refl
    go true false false l (Compensation undo_next key after) = refl
    go true false false l Commit = refl
    go true false false l Rollback = refl
    go true false false l End = refl
    go true false false l BeginCheckpoint = refl
    go true false false l (EndCheckpoint transactions pages) = refl
    go true false false l Prepare = refl
    go false true true l (Update key before after) = refl
    go false true true l (Compensation undo_next key after) = refl
    go false true true l Commit = refl
    go false true true l Rollback = refl
    go false true true l End = refl
    go false true true l BeginCheckpoint = refl
    go false true true l (EndCheckpoint transactions pages) = refl
    go false true true l Prepare = refl
    go false true false l (Update key before after) = refl
    go false true false l (Compensation undo_next key after) = refl
    go false true false l Commit = refl
    go false true false l Rollback = refl
    go false true false l End = refl
    go false true false l BeginCheckpoint = refl
    go false true false l (EndCheckpoint transactions pages) = refl
    go false true false l Prepare = refl
    go false false true l (Update key before after) = refl
    go false false true l (Compensation undo_next key after) = refl
    go false false true l Commit = refl
    go false false true l Rollback = refl
    go false false true l End = refl
    go false false true l BeginCheckpoint = refl
    go false false true l (EndCheckpoint transactions pages) = refl
    go false false true l Prepare = refl
    go false false false l (Update key before after) = refl
    go false false false l (Compensation undo_next key after) = refl
    go false false false l Commit = refl
    go false false false l Rollback = refl
    go false false false l End = refl
    go false false false l BeginCheckpoint = refl
    go false false false l (EndCheckpoint transactions pages) = refl
    go false false false l Prepare = refl

-- a checkpoint's record: whether its transaction has committed or is in doubt
pub wrong_state-checkpoint : (log : List Record) (r : Record) → is_transactional r.body ≡ false → wrong_state log r ≡ (is_in_doubt log r.trans.0 || is_committed log r.trans.0)
unfolding wrong_state
wrong_state-checkpoint log r w = go (is_committed log r.trans.0) (has_rollback log r.trans.0) (is_in_doubt log r.trans.0) (is_some_left (to_undo log r.trans.0)) r.body w
  where
    go : (c h d l : Bool) (b : Body) → is_transactional b ≡ false → ((c && not (is_end b)) || (h && not c && is_forward b) || (d && not (is_decision b)) || (is_end b && not c && l)) ≡ (d || c)
    go c h d l (Update key before after) e = absurd (true≢false e)
    go c h d l (Compensation undo_next key after) e = absurd (true≢false e)
    go c h d l Commit e = absurd (true≢false e)
    go c h d l Rollback e = absurd (true≢false e)
    go c h d l End e = absurd (true≢false e)
    go c h d l Prepare e = absurd (true≢false e)
    go true true true l BeginCheckpoint e = refl
    go true true false l BeginCheckpoint e = refl
    go true false true l BeginCheckpoint e = refl
    go true false false l BeginCheckpoint e = refl
    go false true true l BeginCheckpoint e = refl
    go false true false l BeginCheckpoint e = refl
    go false false true l BeginCheckpoint e = refl
    go false false false l BeginCheckpoint e = refl
    go true true true l (EndCheckpoint transactions pages) e = refl
    go true true false l (EndCheckpoint transactions pages) e = refl
    go true false true l (EndCheckpoint transactions pages) e = refl
    go true false false l (EndCheckpoint transactions pages) e = refl
    go false true true l (EndCheckpoint transactions pages) e = refl
    go false true false l (EndCheckpoint transactions pages) e = refl
    go false false true l (EndCheckpoint transactions pages) e = refl
    go false false false l (EndCheckpoint transactions pages) e = refl

pub wrong_undo_next-skips : (log : List Record) (r : Record) (newest : Option Record) → (is_transactional r.body ≡ true → newest ≡ first_of (to_undo log r.trans.0)) → wrong_undo_next log r ≡ skips newest r.body
unfolding wrong_undo_next
wrong_undo_next-skips log r newest k = go (to_undo log r.trans.0) newest r.body k
  where
    go : (us : List Record) (n : Option Record) (b : Body) → (is_transactional b ≡ true → n ≡ first_of us) → not (goes_on_after us b) ≡ skips n b
    go [] None (Update key before after) k = refl
    go [] (Some v) (Update key before after) k = refl
    go (u ∷ rest) None (Update key before after) k = refl
    go (u ∷ rest) (Some v) (Update key before after) k = refl
    go [] n (Compensation undo_next key after) k = rw (k refl) refl
    go (u ∷ rest) n (Compensation undo_next key after) k = rw (k refl) refl
    go [] None Commit k = refl
    go [] (Some v) Commit k = refl
    go (u ∷ rest) None Commit k = refl
    go (u ∷ rest) (Some v) Commit k = refl
    go [] None Rollback k = refl
    go [] (Some v) Rollback k = refl
    go (u ∷ rest) None Rollback k = refl
    go (u ∷ rest) (Some v) Rollback k = refl
    go [] None End k = refl
    go [] (Some v) End k = refl
    go (u ∷ rest) None End k = refl
    go (u ∷ rest) (Some v) End k = refl
    go [] None BeginCheckpoint k = refl
    go [] (Some v) BeginCheckpoint k = refl
    go (u ∷ rest) None BeginCheckpoint k = refl
    go (u ∷ rest) (Some v) BeginCheckpoint k = refl
    go [] None (EndCheckpoint transactions pages) k = refl
    go [] (Some v) (EndCheckpoint transactions pages) k = refl
    go (u ∷ rest) None (EndCheckpoint transactions pages) k = refl
    go (u ∷ rest) (Some v) (EndCheckpoint transactions pages) k = refl
    go [] None Prepare k = refl
    go [] (Some v) Prepare k = refl
    go (u ∷ rest) None Prepare k = refl
    go (u ∷ rest) (Some v) Prepare k = refl

pub wrong_compensation-misses : (log : List Record) (r : Record) (newest : Option Record) → (is_transactional r.body ≡ true → newest ≡ first_of (to_undo log r.trans.0)) → wrong_compensation log r ≡ misses newest r.body
unfolding wrong_compensation
wrong_compensation-misses log r newest k = go (to_undo log r.trans.0) newest r.body k
  where
    go : (us : List Record) (n : Option Record) (b : Body) → (is_transactional b ≡ true → n ≡ first_of us) → not (undoes_newest us b) ≡ misses n b
    go [] None (Update key before after) k = refl
    go [] (Some v) (Update key before after) k = refl
    go (u ∷ rest) None (Update key before after) k = refl
    go (u ∷ rest) (Some v) (Update key before after) k = refl
    go [] n (Compensation undo_next key after) k = rw (k refl) refl
    go (u ∷ rest) n (Compensation undo_next key after) k = rw (k refl) refl
    go [] None Commit k = refl
    go [] (Some v) Commit k = refl
    go (u ∷ rest) None Commit k = refl
    go (u ∷ rest) (Some v) Commit k = refl
    go [] None Rollback k = refl
    go [] (Some v) Rollback k = refl
    go (u ∷ rest) None Rollback k = refl
    go (u ∷ rest) (Some v) Rollback k = refl
    go [] None End k = refl
    go [] (Some v) End k = refl
    go (u ∷ rest) None End k = refl
    go (u ∷ rest) (Some v) End k = refl
    go [] None BeginCheckpoint k = refl
    go [] (Some v) BeginCheckpoint k = refl
    go (u ∷ rest) None BeginCheckpoint k = refl
    go (u ∷ rest) (Some v) BeginCheckpoint k = refl
    go [] None (EndCheckpoint transactions pages) k = refl
    go [] (Some v) (EndCheckpoint transactions pages) k = refl
    go (u ∷ rest) None (EndCheckpoint transactions pages) k = refl
    go (u ∷ rest) (Some v) (EndCheckpoint transactions pages) k = refl
    go [] None Prepare k = refl
    go [] (Some v) Prepare k = refl
    go (u ∷ rest) None Prepare k = refl
    go (u ∷ rest) (Some v) Prepare k = refl

pub too_many-begins : (log : List Record) (r : Record) → is_valid log ≡ true → old_transaction log r ≡ false → too_many log r ≡ (is_transactional r.body && not (is_end r.body) && not (is_unended log r.trans.0) && nat_le 256 (length (unended log)))
unfolding too_many
too_many-begins log r v o =
    let few : length (unended log) ≤ 256 = few_unended log v in
    elim (cases_Bool (is_transactional r.body)) [
      | inr w ↦ rw w (lt-false (length-unended_checkpoint log r w) few)
      | inl w ↦ elim (known_of log r w o) [
        | inl u ↦ elim (cases_Bool (is_end r.body)) [
          | inl e ↦ rw (w, e) (ltb-from 256 (length (unended (log ++ r ∷ []))) (let m : length (unended (log ++ r ∷ [])) + 1 ≡ length (unended log) = length-unended_end log r w e u in omega arith))
          | inr e ↦ rw (w, e, u) (lt-false (length-unended_more log r w e u) few)
        ]
        | inr n ↦ elim (cases_Bool (is_end r.body)) [
          | inl e ↦ rw (w, e) (lt-false (length-unended_new_end log r w e n) few)
          | inr e ↦ let u : is_unended log r.trans.0 ≡ false = is_unended-none log r.trans.0 n in rw (w, e, u) (let m : length (unended (log ++ r ∷ [])) ≡ length (unended log) + 1 = length-unended_new log r w e n in ap (nat_lt 256) m ∙ same (length (unended log)))
        ]
      ]
    ]
  where
    ltb-from : (m n : ℕ) → n ≤ m → nat_lt m n ≡ false
    ltb-from m n h = grind (arith, nat_tests)

    lt-false : length (unended (log ++ r ∷ [])) ≡ length (unended log) → length (unended log) ≤ 256 → nat_lt 256 (length (unended (log ++ r ∷ []))) ≡ false
    lt-false e h = ltb-from 256 (length (unended (log ++ r ∷ []))) (omega arith)

    same : (n : ℕ) → nat_lt 256 (n + 1) ≡ nat_le 256 n
    same n = grind (arith, nat_tests)

-- ---- open transactions

pub goes_on-open : (log : List Record) (t : ℕ) → is_unended log t ≡ true → goes_on (row_of log t).state ≡ is_open log t
unfolding row_of state_of is_open
goes_on-open log t u = rw u (go (is_committed log t) (has_rollback log t) (has_prepare log t))
  where
    go : (c h p : Bool) → goes_on (cond c Committed (cond h RollingBack (cond p Prepared Active))) ≡ not c
    go true h p = refl
    go false true p = refl
    go false false true = refl
    go false false false = refl

pub is_open-ended : (log : List Record) (t : ℕ) → is_unended log t ≡ false → is_open log t ≡ false
unfolding is_open
is_open-ended log t u = rw u refl

pub is_some-copied : (n : Option (Bor Record)) → is_some n ≡ is_some (option_copied n)
is_some-copied None = refl
is_some-copied (Some u) = refl

-- ---- the transactions that have committed

or-false : (b : Bool) → (b || false) ≡ b
or-false true = refl
or-false false = refl

module _ (ids : List TransId) (log : List Record) (r : Record) (are : AreCommitted ids log) where
  pub committed-push : r.body ≡ Commit → AreCommitted (ids ++ r.trans ∷ []) (log ++ r ∷ [])
  committed-push b = record {
    each = λ t.
        list_any-append (λ (id : TransId). id.0 == t) ids (r.trans ∷ []) ∙ ap (λ x. x || ((r.trans.0 == t) || false)) (are.each t) ∙ elim (cases_Bool (r.trans.0 == t)) [
          | inl e ↦ rw e (sym (is_committed-own log r t (rw (b, e) refl) ∙ ap (λ x. is_committed log t || is_commit x) b))
          | inr e ↦ rw e (or-false (is_committed log t) ∙ sym (is_committed-other log r t (rw (b, e) refl)))
        ];
  }

  pub committed-keep : is_commit r.body ≡ false → AreCommitted ids (log ++ r ∷ [])
  committed-keep n = record {
    each = λ t. are.each t ∙ elim (cases_Bool (is_of t r)) [
      | inl o ↦ sym (is_committed-own log r t o ∙ ap (λ x. is_committed log t || x) n ∙ or-false (is_committed log t))
      | inr o ↦ sym (is_committed-other log r t o)
    ];
  }

pub committed-none : AreCommitted [] []
unfolding is_committed records_of
committed-none = record { each = λ t. refl }
