-- The transactions of a log, and those unended, with one more record.
use Rattle.std.proofs.Common.{◌≡◌, ℕ, ◌==◌, ◌+◌, max, Bool, true, false, cond, not, ◌&&◌, ◌||◌, List, [], ◌∷◌, ◌++◌, length, filter, fold, map, refl, sym, ap, ◌∙◌, inl, inr, append-nil, arith}
use Rattle.std.specs.List.{AllByRecursion}
use Rattle.std.proofs.lemmas.Bool.{cases_Bool, eqb-true}
use Rattle.std.proofs.lemmas.List.{length_push}
use Rattle.std.proofs.lemmas.List.Elements.{filter-append, filter_agree}
use Rattle.std.proofs.lemmas.List.Sums.{fold_push}
use Rattle.als_record.specs.declared.record.Record.{Record}
use Rattle.als_record.specs.declared.transaction_state.TransactionState.TheVariants.{Active, Committed, RollingBack, Prepared}
use Rattle.als_record.specs.Transactions.{is_transactional, is_end, is_of, is_among, is_some_left, records_of, has_begun, has_ended, is_committed, has_rollback, has_prepare, is_unended, is_in_doubt, is_nobody, with_transaction, transactions, unended, in_doubt, greatest_trans}
use Rattle.als_record.specs.Table.{state_of, row_of, table_of, is_prepared, is_closed}
use Rattle.als_record.specs.Tail.{ending, is_undone}
use Rattle.als_record.proofs.Records.{is_unended-other, is_unended-own, has_ended-none, has_begun-unended, has_ended-unended, in_doubt_parts}
use Rattle.als_record.proofs.Numbers.{without, eqb-refl, eqb-sym, is_among-append, is_among-filter, Apart-push, Apart-filter, filter-except, filter-without, length-without}
use Rattle.als_record.specs.Orders.{Apart}

pub transactions-push : (log : List Record) (r : Record) → transactions (log ++ r ∷ []) ≡ with_transaction (transactions log) r
unfolding transactions
transactions-push log r = fold_push with_transaction [] log r

pub greatest_trans-push : (log : List Record) (r : Record) → greatest_trans (log ++ r ∷ []) ≡ max (greatest_trans log) r.trans.0
unfolding greatest_trans
greatest_trans-push log r = fold_push (λ greatest (u : Record). max greatest u.trans.0) 0 log r

-- ---- the transactions are those that have begun, each once

among_step : (ids : List ℕ) (r : Record) (t : ℕ) → is_among (with_transaction ids r) t ≡ (is_among ids t || is_of t r)
among_step ids r t = elim (cases_Bool (is_transactional r.body)) [
  | inl w ↦ elim (cases_Bool (is_among ids r.trans.0)) [
    | inl e ↦ simp (w, e) (elim (cases_Bool (r.trans.0 == t)) [
      | inl y ↦ let m : is_among ids t ≡ true = ap (is_among ids) (sym (eqb-true r.trans.0 t y)) ∙ e in simp (y, m)
      | inr y ↦ simp y (sym (or_false (is_among ids t)))
    ])
    | inr e ↦ simp (w, e) (is_among-append ids (r.trans.0 ∷ []) t ∙ ap (λ b. is_among ids t || b) (or_false (r.trans.0 == t)))
  ]
  | inr w ↦ simp w (sym (or_false (is_among ids t)))
]
  where
    or_false : (b : Bool) → (b || false) ≡ b
    or_false true = refl
    or_false false = refl

among_along : (ids : List ℕ) (log : List Record) (t : ℕ) → is_among (fold with_transaction ids log) t ≡ (is_among ids t || is_some_left (filter (is_of t) log))
among_along ids [] t = or_false (is_among ids t)
  where
    or_false : (b : Bool) → b ≡ (b || false)
    or_false true = refl
    or_false false = refl
among_along ids (r ∷ rest) t = among_along (with_transaction ids r) rest t ∙ ap (λ b. b || is_some_left (filter (is_of t) rest)) (among_step ids r t) ∙ onto (is_among ids t) (is_of t r)
  where
    onto : (a b : Bool) → ((a || b) || is_some_left (filter (is_of t) rest)) ≡ (a || is_some_left (cond b (r ∷ filter (is_of t) rest) (filter (is_of t) rest)))
    onto true b = refl
    onto false true = refl
    onto false false = refl

pub is_among-transactions : (log : List Record) (t : ℕ) → is_among (transactions log) t ≡ has_begun log t
unfolding transactions has_begun records_of
is_among-transactions log t = among_along [] log t

apart_along : (ids : List ℕ) (log : List Record) → Apart ids → Apart (fold with_transaction ids log)
apart_along ids [] a = a
apart_along ids (r ∷ rest) a = apart_along (with_transaction ids r) rest (step (is_transactional r.body) (is_among ids r.trans.0) refl)
  where
    step : (w e : Bool) → is_among ids r.trans.0 ≡ e → Apart (cond (w && not e) (ids ++ r.trans.0 ∷ []) ids)
    step true true q = a
    step true false q = Apart-push ids r.trans.0 a q
    step false e q = a

pub Apart-transactions : (log : List Record) → Apart (transactions log)
unfolding transactions
Apart-transactions log = apart_along [] log tt

pub Apart-unended : (log : List Record) → Apart (unended log)
unfolding unended
Apart-unended log = Apart-filter (is_unended log) (transactions log) (Apart-transactions log)

pub is_among-unended : (log : List Record) (t : ℕ) → is_among (unended log) t ≡ is_unended log t
unfolding unended
is_among-unended log t = is_among-filter (is_unended log) t (transactions log) ∙ ap (λ b. is_unended log t && b) (is_among-transactions log t) ∙ elim (cases_Bool (is_unended log t)) [
  | inl e ↦ let b : has_begun log t ≡ true = has_begun-unended log t e in simp (e, b)
  | inr e ↦ simp e
]

-- each of them is unended
pub All-unended : (log : List Record) → AllByRecursion (λ t. is_unended log t ≡ true) (unended log)
unfolding unended
All-unended log = go (transactions log)
  where
    go : (ts : List ℕ) → AllByRecursion (λ t. is_unended log t ≡ true) (filter (is_unended log) ts)
    go [] = tt
    go (t ∷ ts) = elim (cases_Bool (is_unended log t)) [
      | inl u ↦ rw u (u, go ts)
      | inr u ↦ rw u (go ts)
    ]

-- ---- one more record

module _ (log : List Record) (r : Record) where
  -- others are as unended as before
  others : (x : ℕ) → (x == r.trans.0) ≡ false → is_unended (log ++ r ∷ []) x ≡ is_unended log x
  others x e = is_unended-other log r x (off (is_transactional r.body) (eqb-sym r.trans.0 x ∙ e))
    where
      off : (w : Bool) → (r.trans.0 == x) ≡ false → (w && (r.trans.0 == x)) ≡ false
      off true e = e
      off false e = refl

  same_if_same : is_unended (log ++ r ∷ []) r.trans.0 ≡ is_unended log r.trans.0 → (x : ℕ) → is_unended (log ++ r ∷ []) x ≡ is_unended log x
  same_if_same s x = elim (cases_Bool (x == r.trans.0)) [
    | inl e ↦ let q : x ≡ r.trans.0 = eqb-true x r.trans.0 e in ap (is_unended (log ++ r ∷ [])) q ∙ s ∙ ap (is_unended log) (sym q)
    | inr e ↦ others x e
  ]

  own_of : is_transactional r.body ≡ true → is_of r.trans.0 r ≡ true
  own_of w = rw (w, eqb-refl r.trans.0)

  -- another record of a transaction that has begun
  pub transactions-same : is_transactional r.body ≡ true → has_begun log r.trans.0 ≡ true → transactions (log ++ r ∷ []) ≡ transactions log
  transactions-same w b = transactions-push log r ∙ (let m : is_among (transactions log) r.trans.0 ≡ true = is_among-transactions log r.trans.0 ∙ b in simp (w, m))

  -- a checkpoint's record
  pub unended-checkpoint : is_transactional r.body ≡ false → unended (log ++ r ∷ []) ≡ unended log
  unfolding unended
  unended-checkpoint w =
      ap (filter (is_unended (log ++ r ∷ []))) (transactions-push log r ∙ rw w refl)
      ∙ filter_agree (is_unended (log ++ r ∷ [])) (is_unended log) (λ x. is_unended-other log r x (rw w refl)) (transactions log)

  -- another record of an unended transaction
  pub unended-more : is_transactional r.body ≡ true → is_end r.body ≡ false → is_unended log r.trans.0 ≡ true → unended (log ++ r ∷ []) ≡ unended log
  unfolding unended
  unended-more w e u =
      ap (filter (is_unended (log ++ r ∷ []))) (transactions-push log r ∙ (let m : is_among (transactions log) r.trans.0 ≡ true = is_among-transactions log r.trans.0 ∙ has_begun-unended log r.trans.0 u in simp (w, m)))
      ∙ filter_agree (is_unended (log ++ r ∷ [])) (is_unended log) (same_if_same (is_unended-own log r r.trans.0 (own_of w) ∙ simp (has_ended-unended log r.trans.0 u, e) (sym u))) (transactions log)

  -- the end of an unended transaction
  pub unended-end : is_transactional r.body ≡ true → is_end r.body ≡ true → has_begun log r.trans.0 ≡ true → unended (log ++ r ∷ []) ≡ without r.trans.0 (unended log)
  unfolding unended
  unended-end w e b =
      ap (filter (is_unended (log ++ r ∷ []))) (transactions-push log r ∙ (let m : is_among (transactions log) r.trans.0 ≡ true = is_among-transactions log r.trans.0 ∙ b in simp (w, m)))
      ∙ filter-without (is_unended (log ++ r ∷ [])) (is_unended log) r.trans.0 others ended (transactions log)
    where
      either : (h : Bool) → not (h || true) ≡ false
      either true = refl
      either false = refl

      ended : is_unended (log ++ r ∷ []) r.trans.0 ≡ false
      ended = is_unended-own log r r.trans.0 (own_of w) ∙ rw e (either (has_ended log r.trans.0))

  -- the first record of a new transaction: it joins, unless that record is its end
  pub unended-new : is_transactional r.body ≡ true → is_end r.body ≡ false → has_begun log r.trans.0 ≡ false → unended (log ++ r ∷ []) ≡ unended log ++ r.trans.0 ∷ []
  unfolding unended
  unended-new w e n =
      ap (filter (is_unended (log ++ r ∷ []))) (transactions-push log r ∙ (let m : is_among (transactions log) r.trans.0 ≡ false = is_among-transactions log r.trans.0 ∙ n in simp (w, m)))
      ∙ filter-append (is_unended (log ++ r ∷ [])) (transactions log) (r.trans.0 ∷ [])
      ∙ ap (λ b. filter (is_unended (log ++ r ∷ [])) (transactions log) ++ cond b (r.trans.0 ∷ []) []) {y = true} (is_unended-own log r r.trans.0 (own_of w) ∙ simp (has_ended-none log r.trans.0 n, e))
      ∙ ap (λ ts. ts ++ r.trans.0 ∷ []) (filter-except (is_unended (log ++ r ∷ [])) (is_unended log) r.trans.0 others (transactions log) (is_among-transactions log r.trans.0 ∙ n))

  pub unended-new_end : is_transactional r.body ≡ true → is_end r.body ≡ true → has_begun log r.trans.0 ≡ false → unended (log ++ r ∷ []) ≡ unended log
  unfolding unended
  unended-new_end w e n =
      ap (filter (is_unended (log ++ r ∷ []))) (transactions-push log r ∙ (let m : is_among (transactions log) r.trans.0 ≡ false = is_among-transactions log r.trans.0 ∙ n in simp (w, m)))
      ∙ filter-append (is_unended (log ++ r ∷ [])) (transactions log) (r.trans.0 ∷ [])
      ∙ ap (λ b. filter (is_unended (log ++ r ∷ [])) (transactions log) ++ cond b (r.trans.0 ∷ []) []) {y = false} (is_unended-own log r r.trans.0 (own_of w) ∙ simp (has_ended-none log r.trans.0 n, e))
      ∙ append-nil (filter (is_unended (log ++ r ∷ [])) (transactions log))
      ∙ filter-except (is_unended (log ++ r ∷ [])) (is_unended log) r.trans.0 others (transactions log) (is_among-transactions log r.trans.0 ∙ n)

  -- ---- how many

  pub length-unended_more : is_transactional r.body ≡ true → is_end r.body ≡ false → is_unended log r.trans.0 ≡ true → length (unended (log ++ r ∷ [])) ≡ length (unended log)
  length-unended_more w e u = ap length (unended-more w e u)

  pub length-unended_end : is_transactional r.body ≡ true → is_end r.body ≡ true → is_unended log r.trans.0 ≡ true → length (unended (log ++ r ∷ [])) + 1 ≡ length (unended log)
  length-unended_end w e u = ap (λ ts. length ts + 1) (unended-end w e (has_begun-unended log r.trans.0 u)) ∙ length-without r.trans.0 (unended log) (Apart-unended log) (is_among-unended log r.trans.0 ∙ u)

  pub length-unended_new : is_transactional r.body ≡ true → is_end r.body ≡ false → has_begun log r.trans.0 ≡ false → length (unended (log ++ r ∷ [])) ≡ length (unended log) + 1
  length-unended_new w e n = ap length (unended-new w e n) ∙ length_push (unended log) r.trans.0

  pub length-unended_new_end : is_transactional r.body ≡ true → is_end r.body ≡ true → has_begun log r.trans.0 ≡ false → length (unended (log ++ r ∷ [])) ≡ length (unended log)
  length-unended_new_end w e n = ap length (unended-new_end w e n)

  pub length-unended_checkpoint : is_transactional r.body ≡ false → length (unended (log ++ r ∷ [])) ≡ length (unended log)
  length-unended_checkpoint w = ap length (unended-checkpoint w)

-- ---- in doubt

pub is_in_doubt-unended : (log : List Record) (t : ℕ) → is_in_doubt log t ≡ true → is_unended log t ≡ true
is_in_doubt-unended log t d = (in_doubt_parts log t d).0

pub Apart-in_doubt : (log : List Record) → Apart (in_doubt log)
unfolding in_doubt
Apart-in_doubt log = Apart-filter (is_in_doubt log) (transactions log) (Apart-transactions log)

pub is_among-in_doubt : (log : List Record) (t : ℕ) → is_among (in_doubt log) t ≡ is_in_doubt log t
unfolding in_doubt
is_among-in_doubt log t = is_among-filter (is_in_doubt log) t (transactions log) ∙ ap (λ b. is_in_doubt log t && b) (is_among-transactions log t) ∙ elim (cases_Bool (is_in_doubt log t)) [
  | inl e ↦ let b : has_begun log t ≡ true = has_begun-unended log t (is_in_doubt-unended log t e) in simp (e, b)
  | inr e ↦ simp e
]

pub is_among-ending : (log : List Record) (t : ℕ) → is_among (ending log) t ≡ (not (is_in_doubt log t) && is_unended log t)
unfolding ending
is_among-ending log t = is_among-filter (λ x. not (is_in_doubt log x)) t (unended log) ∙ ap (λ b. not (is_in_doubt log t) && b) (is_among-unended log t)

pub Apart-ending : (log : List Record) → Apart (ending log)
unfolding ending
Apart-ending log = Apart-filter (λ x. not (is_in_doubt log x)) (unended log) (Apart-unended log)

-- the unended transactions are those that a takeover ends and those in doubt
pub length-unended_parts : (log : List Record) → length (unended log) ≡ length (ending log) + length (in_doubt log)
unfolding ending unended in_doubt
length-unended_parts log = go (transactions log)
  where
    go : (ts : List ℕ) → length (filter (is_unended log) ts) ≡ length (filter (λ x. not (is_in_doubt log x)) (filter (is_unended log) ts)) + length (filter (is_in_doubt log) ts)
    go [] = refl
    go (t ∷ ts) = let h : length (filter (is_unended log) ts) ≡ length (filter (λ x. not (is_in_doubt log x)) (filter (is_unended log) ts)) + length (filter (is_in_doubt log) ts) = go ts in elim (cases_Bool (is_in_doubt log t)) [
      | inl d ↦ let u : is_unended log t ≡ true = is_in_doubt-unended log t d in simp (u, d) (omega arith)
      | inr d ↦ elim (cases_Bool (is_unended log t)) [
        | inl u ↦ simp (u, d) (omega arith)
        | inr u ↦ simp (u, d) (omega arith)
      ]
    ]

-- where a takeover ends none, they are those in doubt
pub unended-in_doubt : (log : List Record) → ending log ≡ [] → unended log ≡ in_doubt log
unfolding ending unended in_doubt
unended-in_doubt log = go (transactions log)
  where
    go : (ts : List ℕ) → filter (λ x. not (is_in_doubt log x)) (filter (is_unended log) ts) ≡ [] → filter (is_unended log) ts ≡ filter (is_in_doubt log) ts
    go [] e = refl
    go (t ∷ ts) e = elim (cases_Bool (is_in_doubt log t)) [
      | inl d ↦ let u : is_unended log t ≡ true = is_in_doubt-unended log t d in
          let f : filter (λ x. not (is_in_doubt log x)) (filter (is_unended log) ts) ≡ [] = (rw (u, d) at e) in
          simp (u, d) (ap (λ xs. t ∷ xs) (go ts f))
      | inr d ↦ elim (cases_Bool (is_unended log t)) [
        | inl u ↦ let f : t ∷ filter (λ x. not (is_in_doubt log x)) (filter (is_unended log) ts) ≡ [] = (rw (u, d) at e) in absurd (cc f)
        | inr u ↦ let f : filter (λ x. not (is_in_doubt log x)) (filter (is_unended log) ts) ≡ [] = (rw u at e) in simp (u, d) (go ts f)
      ]
    ]

-- an unended transaction is in doubt exactly where its row says prepared
pub is_prepared-state : (log : List Record) (t : ℕ) → is_unended log t ≡ true → is_prepared (state_of log t) ≡ is_in_doubt log t
unfolding state_of is_in_doubt
is_prepared-state log t u = rw u (go (is_committed log t) (has_rollback log t) (has_prepare log t))
  where
    go : (c h p : Bool) → is_prepared (cond c Committed (cond h RollingBack (cond p Prepared Active))) ≡ (true && p && not c && not h)
    go true h true = refl
    go true h false = refl
    go false true true = refl
    go false true false = refl
    go false false true = refl
    go false false false = refl

-- ---- none left

-- nothing of the tail is left to append exactly where a takeover ends no transaction
pub is_undone-ending : (log : List Record) → is_undone log ≡ true → ending log ≡ []
unfolding is_undone
is_undone-ending log = go (ending log)
  where
    go : (ts : List ℕ) → is_nobody ts ≡ true → ts ≡ []
    go [] e = refl
    go (t ∷ rest) e = absurd cc

pub ending-is_undone : (log : List Record) → ending log ≡ [] → is_undone log ≡ true
unfolding is_undone
ending-is_undone log e = ap is_nobody e

-- then the transaction table is closed
pub is_closed-table_of : (log : List Record) → is_closed (table_of log) ≡ is_undone log
unfolding is_closed table_of is_undone ending unended row_of
is_closed-table_of log = go (transactions log)
  where
    go : (ts : List ℕ) → is_closed (map (row_of log) (filter (is_unended log) ts)) ≡ is_nobody (filter (λ x. not (is_in_doubt log x)) (filter (is_unended log) ts))
    go [] = refl
    go (t ∷ rest) = elim (cases_Bool (is_unended log t)) [
      | inr u ↦ simp u (go rest)
      | inl u ↦ let p : is_prepared (state_of log t) ≡ is_in_doubt log t = is_prepared-state log t u in elim (cases_Bool (is_in_doubt log t)) [
        | inl d ↦ simp (u, d, p) (go rest)
        | inr d ↦ simp (u, d, p)
      ]
    ]
