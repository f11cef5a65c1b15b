-- The reserve of a log is bounded by the log: each update and each prepare record has its bytes there, and each
-- transaction a record.
use Rattle.std.proofs.Common.{◌≡◌, ℕ, ◌+◌, ◌*◌, ◌∙◌, ◌≤◌, ◌<◌, ◌^◌, ◌%◌, Bool, true, false, cond, not, ◌&&◌, ◌||◌, ◌==◌, refl, sym, ap, subst, append-nil, List, [], ◌∷◌, ◌++◌, length, filter, inl, inr, arith}
use Rattle.std.specs.List.{sum_by}
use Rattle.std.proofs.Math.Nat.{mod-eq_of_lt}
use Rattle.std.proofs.lemmas.Bool.{cases_Bool, eqb-true}
use Rattle.std.proofs.lemmas.List.{length_push}
use Rattle.std.proofs.lemmas.List.Elements.{filter-append, filter_agree}
use Rattle.std.proofs.lemmas.List.Sums.{sum_by-cons}
use Rattle.als_record.specs.declared.record.Body.{Body}
use Rattle.als_record.specs.declared.record.Body.TheVariants.{Update, Compensation, Commit, Rollback, End, BeginCheckpoint, EndCheckpoint, Prepare}
use Rattle.als_record.specs.declared.record.Record.{Record}
use Rattle.als_record.specs.declared.key.Key.{Key}
use Rattle.als_record.specs.Spelling.{Image, record_len}
use Rattle.als_record.specs.LogText.{end_of}
use Rattle.als_record.specs.Orders.{Apart}
use Rattle.als_record.specs.Transactions.{is_transactional, is_prepare, is_of, is_among, has_prepare, is_open, is_in_doubt, is_unended, transactions, unended, in_doubt, without_newest, survivors_after, all_surviving}
use Rattle.als_record.specs.Tail.{undo_len, reserve_of}
use Rattle.als_record.proofs.Survivors.{log_induction, all_surviving-push, all_surviving-nil}
use Rattle.als_record.proofs.Records.{has_prepare-own, has_prepare-other, has_prepare-none, in_doubt_parts}
use Rattle.als_record.proofs.Numbers.{eqb-sym, filter-except}
use Rattle.als_record.proofs.Unended.{transactions-push, Apart-transactions, is_among-transactions}
use Rattle.als_record.proofs.Places.{end_of-push, record_len-head}
use Rattle.als_record.proofs.Reserve.{holding, reserve_of-is}

-- ---- sums and lengths of parts

sum-filter : (f : Record → ℕ) (p : Record → Bool) (us : List Record) → sum_by f (filter p us) ≤ sum_by f us
sum-filter f p [] = omega arith
sum-filter f p (u ∷ us) = let h : sum_by f (filter p us) ≤ sum_by f us = sum-filter f p us in let w : sum_by f (u ∷ us) ≡ f u + sum_by f us = sum_by-cons f u us in elim (cases_Bool (p u)) [
  | inl e ↦ let v : sum_by f (u ∷ filter p us) ≡ f u + sum_by f (filter p us) = sum_by-cons f u (filter p us) in rw e (omega arith)
  | inr e ↦ rw e (omega arith)
]

sum-without_newest : (f : Record → ℕ) (t : ℕ) (us : List Record) → sum_by f (without_newest t us) ≤ sum_by f us
sum-without_newest f t [] = omega arith
sum-without_newest f t (u ∷ us) = let h : sum_by f (without_newest t us) ≤ sum_by f us = sum-without_newest f t us in let w : sum_by f (u ∷ us) ≡ f u + sum_by f us = sum_by-cons f u us in elim (cases_Bool (u.trans.0 == t)) [
  | inl e ↦ rw e (omega arith)
  | inr e ↦ let v : sum_by f (u ∷ without_newest t us) ≡ f u + sum_by f (without_newest t us) = sum_by-cons f u (without_newest t us) in rw e (omega arith)
]

length-filter : (p : ℕ → Bool) (ts : List ℕ) → length (filter p ts) ≤ length ts
length-filter p [] = omega arith
length-filter p (t ∷ ts) = let h : length (filter p ts) ≤ length ts = length-filter p ts in elim (cases_Bool (p t)) [
  | inl e ↦ rw e (omega arith)
  | inr e ↦ rw e (omega arith)
]

-- ---- one more record

end-nil : end_of [] ≡ 16
unfolding end_of
end-nil = refl

transactions-nil : 28 * length (transactions []) + 16 ≤ end_of []
unfolding transactions
transactions-nil = omega (arith, end-nil)

transactions-none : transactions [] ≡ []
unfolding transactions
transactions-none = refl

transactions-below : (log : List Record) → 28 * length (transactions log) + 16 ≤ end_of log
transactions-below log = log_induction (λ l. 28 * length (transactions l) + 16 ≤ end_of l) transactions-nil more log
  where
    grown : (b : Bool) (ts : List ℕ) (t : ℕ) → length (cond b (ts ++ t ∷ []) ts) ≤ length ts + 1
    grown true ts t = let e : length (ts ++ t ∷ []) ≡ length ts + 1 = length_push ts t in omega arith
    grown false ts t = omega arith

    more : (l : List Record) (r : Record) → 28 * length (transactions l) + 16 ≤ end_of l → 28 * length (transactions (l ++ r ∷ [])) + 16 ≤ end_of (l ++ r ∷ [])
    more l r h =
        let e : end_of (l ++ r ∷ []) ≡ end_of l + record_len r = end_of-push l r in
        let n : 28 ≤ record_len r = record_len-head r in
        let g : length (transactions (l ++ r ∷ [])) ≤ length (transactions l) + 1 =
        rw (transactions-push l r) (grown (is_transactional r.body && not (is_among (transactions l) r.trans.0)) (transactions l) r.trans.0) in
        omega arith

undo_len-below : (r : Record) (key : Key) (before after : Image) → r.body ≡ Update key before after → undo_len r ≤ 2 * record_len r
unfolding record_len
undo_len-below r key before after b = rw b (omega arith)

-- ---- those that have prepared

abbrev prepared : List Record → List ℕ
prepared log = filter (has_prepare log) (transactions log)

-- tests that agree but on one number, which stands once
one_more : (p q : ℕ → Bool) (t : ℕ) → ((x : ℕ) → (x == t) ≡ false → p x ≡ q x) → (xs : List ℕ) → Apart xs → length (filter p xs) ≤ length (filter q xs) + 1
one_more p q t agree [] a = omega arith
one_more p q t agree (x ∷ rest) a = elim (cases_Bool (x == t)) [
  | inl e ↦
      let none : is_among rest t ≡ false = ap (is_among rest) (sym (eqb-true x t e)) ∙ a.0 in
      let s : length (filter p rest) ≡ length (filter q rest) = ap length (filter-except p q t agree rest none) in
      either (p x) (q x) s
  | inr e ↦
      let h : length (filter p rest) ≤ length (filter q rest) + 1 = one_more p q t agree rest a.1 in
      let s : p x ≡ q x = agree x e in
      rw s (both (q x) h)
]
  where
    either : (b c : Bool) → length (filter p rest) ≡ length (filter q rest) → length (cond b (x ∷ filter p rest) (filter p rest)) ≤ length (cond c (x ∷ filter q rest) (filter q rest)) + 1
    either true true s = omega arith
    either true false s = omega arith
    either false true s = omega arith
    either false false s = omega arith

    both : (b : Bool) → length (filter p rest) ≤ length (filter q rest) + 1 → length (cond b (x ∷ filter p rest) (filter p rest)) ≤ length (cond b (x ∷ filter q rest) (filter q rest)) + 1
    both true h = omega arith
    both false h = h

-- a record prepares its own transaction at most
module _ (l : List Record) (r : Record) where
  prepared-others : (x : ℕ) → (x == r.trans.0) ≡ false → has_prepare (l ++ r ∷ []) x ≡ has_prepare l x
  prepared-others x e = has_prepare-other l r x (off (is_transactional r.body) (eqb-sym r.trans.0 x ∙ e))
    where
      off : (w : Bool) → (r.trans.0 == x) ≡ false → (w && (r.trans.0 == x)) ≡ false
      off true e = e
      off false e = refl

  -- a new transaction had not prepared
  prepared-before : filter (has_prepare l) (transactions (l ++ r ∷ [])) ≡ prepared l
  prepared-before = ap (filter (has_prepare l)) (transactions-push l r) ∙ go (is_transactional r.body) (is_among (transactions l) r.trans.0) refl
    where
      go : (w m : Bool) → is_among (transactions l) r.trans.0 ≡ m → filter (has_prepare l) (cond (w && not m) (transactions l ++ r.trans.0 ∷ []) (transactions l)) ≡ prepared l
      go true true q = refl
      go false m q = refl
      go true false q =
          filter-append (has_prepare l) (transactions l) (r.trans.0 ∷ [])
          ∙ ap (λ b. prepared l ++ cond b (r.trans.0 ∷ []) []) (has_prepare-none l r.trans.0 (sym (is_among-transactions l r.trans.0) ∙ q))
          ∙ append-nil (prepared l)

  prepared-prepare : length (prepared (l ++ r ∷ [])) ≤ length (prepared l) + 1
  prepared-prepare = subst (λ ts. length (prepared (l ++ r ∷ [])) ≤ length ts + 1) prepared-before (one_more (has_prepare (l ++ r ∷ [])) (has_prepare l) r.trans.0 prepared-others (transactions (l ++ r ∷ [])) (Apart-transactions (l ++ r ∷ [])))

  prepared-same : is_prepare r.body ≡ false → prepared (l ++ r ∷ []) ≡ prepared l
  prepared-same n = filter_agree (has_prepare (l ++ r ∷ [])) (has_prepare l) same (transactions (l ++ r ∷ [])) ∙ prepared-before
    where
      or-false : (b : Bool) → (b || false) ≡ b
      or-false true = refl
      or-false false = refl

      same : (x : ℕ) → has_prepare (l ++ r ∷ []) x ≡ has_prepare l x
      same x = elim (cases_Bool (is_of x r)) [
        | inl o ↦ has_prepare-own l r x o ∙ rw n (or-false (has_prepare l x))
        | inr o ↦ has_prepare-other l r x o
      ]

in_doubt-prepared : (log : List Record) → length (in_doubt log) ≤ length (prepared log)
unfolding in_doubt
in_doubt-prepared log = go (transactions log)
  where
    go : (ts : List ℕ) → length (filter (is_in_doubt log) ts) ≤ length (filter (has_prepare log) ts)
    go [] = omega arith
    go (t ∷ ts) = let h : length (filter (is_in_doubt log) ts) ≤ length (filter (has_prepare log) ts) = go ts in elim (cases_Bool (is_in_doubt log t)) [
      | inl d ↦ let p : has_prepare log t ≡ true = (in_doubt_parts log t d).1 in simp (d, p) (omega arith)
      | inr d ↦ elim (cases_Bool (has_prepare log t)) [
        | inl p ↦ simp (d, p) (omega arith)
        | inr p ↦ simp (d, p) h
      ]
    ]

-- each prepare record and each update has its bytes
survivors-below : (log : List Record) → sum_by undo_len (all_surviving log) + 28 * length (prepared log) + 32 ≤ 2 * end_of log
survivors-below log = log_induction (λ l. sum_by undo_len (all_surviving l) + 28 * length (prepared l) + 32 ≤ 2 * end_of l) start more log
  where
    start : sum_by undo_len (all_surviving []) + 28 * length (prepared []) + 32 ≤ 2 * end_of []
    start = rw (all_surviving-nil, none) (omega (arith, end-nil))
      where
        none : transactions [] ≡ []
        none = transactions-none

    more : (l : List Record) (r : Record) → sum_by undo_len (all_surviving l) + 28 * length (prepared l) + 32 ≤ 2 * end_of l → sum_by undo_len (all_surviving (l ++ r ∷ [])) + 28 * length (prepared (l ++ r ∷ [])) + 32 ≤ 2 * end_of (l ++ r ∷ [])
    more l r h = rw (all_surviving-push l r) (go r.body refl)
      where
        e : end_of (l ++ r ∷ []) ≡ end_of l + record_len r
        e = end_of-push l r

        n : 28 ≤ record_len r
        n = record_len-head r

        -- what prepares nothing
        same : is_prepare r.body ≡ false → length (prepared (l ++ r ∷ [])) ≡ length (prepared l)
        same q = ap length (prepared-same l r q)

        go : (b : Body) → r.body ≡ b → sum_by undo_len (survivors_after (all_surviving l) r b) + 28 * length (prepared (l ++ r ∷ [])) + 32 ≤ 2 * end_of (l ++ r ∷ [])
        go (Update key before after) b =
            let w : sum_by undo_len (r ∷ all_surviving l) ≡ undo_len r + sum_by undo_len (all_surviving l) = sum_by-cons undo_len r (all_surviving l) in
            let u : undo_len r ≤ 2 * record_len r = undo_len-below r key before after b in
            let p : length (prepared (l ++ r ∷ [])) ≡ length (prepared l) = same (ap is_prepare b) in
            omega (arith, e)
        go (Compensation undo_next key after) b =
            let w : sum_by undo_len (without_newest r.trans.0 (all_surviving l)) ≤ sum_by undo_len (all_surviving l) = sum-without_newest undo_len r.trans.0 (all_surviving l) in
            let p : length (prepared (l ++ r ∷ [])) ≡ length (prepared l) = same (ap is_prepare b) in
            omega (arith, e)
        go Commit b = let p : length (prepared (l ++ r ∷ [])) ≡ length (prepared l) = same (ap is_prepare b) in omega (arith, e)
        go Rollback b = let p : length (prepared (l ++ r ∷ [])) ≡ length (prepared l) = same (ap is_prepare b) in omega (arith, e)
        go End b = let p : length (prepared (l ++ r ∷ [])) ≡ length (prepared l) = same (ap is_prepare b) in omega (arith, e)
        go BeginCheckpoint b = let p : length (prepared (l ++ r ∷ [])) ≡ length (prepared l) = same (ap is_prepare b) in omega (arith, e)
        go (EndCheckpoint transactions pages) b = let p : length (prepared (l ++ r ∷ [])) ≡ length (prepared l) = same (ap is_prepare b) in omega (arith, e)
        go Prepare b = let p : length (prepared (l ++ r ∷ [])) ≤ length (prepared l) + 1 = prepared-prepare l r in omega (arith, e, n)

-- ---- the reserve

pub reserve_of-below : (log : List Record) → reserve_of log + 48 ≤ 3 * end_of log
unfolding unended
reserve_of-below log =
    let is : reserve_of log ≡ 28 * length (filter (is_unended log) (transactions log)) + 28 * length (in_doubt log) + sum_by undo_len (holding log) = reserve_of-is log in
    let few : length (filter (is_unended log) (transactions log)) ≤ length (transactions log) = length-filter (is_unended log) (transactions log) in
    let doubts : length (in_doubt log) ≤ length (prepared log) = in_doubt-prepared log in
    let less : sum_by undo_len (holding log) ≤ sum_by undo_len (all_surviving log) = sum-filter undo_len (λ u. is_open log u.trans.0) (all_surviving log) in
    omega (arith, transactions-below log, survivors-below log)

-- so the reserve of a log of less than 2^62 bytes is a number of 64 bits
pub reserve_of-exact : (log : List Record) → end_of log < 2 ^ 62 → reserve_of log % 2 ^ 64 ≡ reserve_of log
reserve_of-exact log short = let h : reserve_of log + 48 ≤ 3 * end_of log = reserve_of-below log in mod-eq_of_lt (omega arith)
