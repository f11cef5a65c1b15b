-- Where records stand: a log ends after its last record, LSNs rise, and what is begun stays known.
use Rattle.std.proofs.Common.{◌≡◌, ℕ, ◌+◌, ◌≤◌, ◌<◌, max, nat_le, Bool, true, false, not, ◌&&◌, List, [], ◌∷◌, ◌++◌, filter, refl, sym, ap, ◌∙◌, inl, inr, arith}
use Rattle.std.specs.List.{AllByRecursion}
use Rattle.std.proofs.lemmas.Bool.{cases_Bool, leb-false}
use Rattle.std.proofs.lemmas.List.Sums.{fold_push, sum_by_push}
use Rattle.als_record.specs.declared.record.Record.{Record}
use Rattle.als_record.specs.Spelling.{record_len}
use Rattle.als_record.specs.LogText.{end_of}
use Rattle.als_record.specs.Transactions.{is_transactional, is_among, transactions, unended, is_unended, has_begun, greatest_trans}
use Rattle.als_record.specs.Validity.{checkpoint_after, open_checkpoint, is_valid, old_transaction}
use Rattle.als_record.specs.Orders.{Rising}
use Rattle.als_record.proofs.Validity.{Admitted, valid_induction}
use Rattle.als_record.proofs.Unended.{transactions-push, greatest_trans-push, is_among-transactions}
use Rattle.als_record.proofs.Records.{is_unended-none}

pub end_of-push : (log : List Record) (r : Record) → end_of (log ++ r ∷ []) ≡ end_of log + record_len r
unfolding end_of
end_of-push log r = ap (λ n. 16 + n) (sum_by_push record_len log r) ∙ omega arith

pub open_checkpoint-push : (log : List Record) (r : Record) → open_checkpoint (log ++ r ∷ []) ≡ checkpoint_after (open_checkpoint log) r.lsn.0 r.body
unfolding open_checkpoint
open_checkpoint-push log r = fold_push (λ begun (u : Record). checkpoint_after begun u.lsn.0 u.body) 0 log r

-- a record takes at least its head
pub record_len-head : (r : Record) → 28 ≤ record_len r
unfolding record_len
record_len-head r = omega arith

-- each record of a valid log stands below the log's end
pub All-below_end : (log : List Record) → is_valid log ≡ true → AllByRecursion (λ u. u.lsn.0 < end_of log) log
All-below_end log v = valid_induction (λ l. AllByRecursion (λ u. u.lsn.0 < end_of l) l) tt (λ l r w h a. step l r h a.place) log v
  where
    push : (n : ℕ) (us : List Record) (r : Record) → AllByRecursion (λ u. u.lsn.0 < n) us → (m : ℕ) → n ≤ m → r.lsn.0 < m → AllByRecursion (λ u. u.lsn.0 < m) (us ++ r ∷ [])
    push n [] r h m le lt = (lt, tt)
    push n (u ∷ us) r h m le lt = (let f : u.lsn.0 < n = h.0 in omega arith, push n us r h.1 m le lt)

    step : (l : List Record) (r : Record) → AllByRecursion (λ u. u.lsn.0 < end_of l) l → r.lsn.0 ≡ end_of l → AllByRecursion (λ u. u.lsn.0 < end_of (l ++ r ∷ [])) (l ++ r ∷ [])
    step l r h p =
        let e : end_of (l ++ r ∷ []) ≡ end_of l + record_len r = end_of-push l r in
        let n : 28 ≤ record_len r = record_len-head r in
        push (end_of l) l r h (end_of (l ++ r ∷ [])) (omega arith) (omega arith)

-- the LSN of a record that may follow is above all of the log's
pub Admitted-above : (log : List Record) (r : Record) → is_valid log ≡ true → Admitted log r → AllByRecursion (λ u. u.lsn.0 < r.lsn.0) log
Admitted-above log r v a = weaken log (All-below_end log v)
  where
    weaken : (us : List Record) → AllByRecursion (λ u. u.lsn.0 < end_of log) us → AllByRecursion (λ u. u.lsn.0 < r.lsn.0) us
    weaken [] h = tt
    weaken (u ∷ us) h = (rw a.place h.0, weaken us h.1)

-- ---- TransIDs rise

-- a new transaction's number is above all of the log
pub new_above : (log : List Record) (r : Record) → Admitted log r → is_transactional r.body ≡ true → has_begun log r.trans.0 ≡ false → greatest_trans log < r.trans.0
unfolding old_transaction
new_above log r a w n =
    let e : (is_transactional r.body && not (is_unended log r.trans.0) && nat_le r.trans.0 (greatest_trans log)) ≡ false = a.old in
    leb-false r.trans.0 (greatest_trans log) (rw (w, is_unended-none log r.trans.0 n) at e)

Rising-push : (xs : List ℕ) (t : ℕ) → Rising xs → AllByRecursion (λ x. x < t) xs → Rising (xs ++ t ∷ [])
Rising-push [] t a b = (tt, tt)
Rising-push (x ∷ rest) t a b = (push rest a.0, Rising-push rest t a.1 b.1)
  where
    push : (ys : List ℕ) → AllByRecursion (λ y. x < y) ys → AllByRecursion (λ y. x < y) (ys ++ t ∷ [])
    push [] c = (b.0, tt)
    push (y ∷ ys) c = (c.0, push ys c.1)

pub Rising-filter : (p : ℕ → Bool) (xs : List ℕ) → Rising xs → Rising (filter p xs)
Rising-filter p [] a = tt
Rising-filter p (x ∷ rest) a = elim (cases_Bool (p x)) [
  | inl e ↦ rw e (kept rest a.0, Rising-filter p rest a.1)
  | inr e ↦ rw e (Rising-filter p rest a.1)
]
  where
    kept : (ys : List ℕ) → AllByRecursion (λ y. x < y) ys → AllByRecursion (λ y. x < y) (filter p ys)
    kept [] c = tt
    kept (y ∷ ys) c = elim (cases_Bool (p y)) [
      | inl e ↦ rw e (c.0, kept ys c.1)
      | inr e ↦ rw e (kept ys c.1)
    ]

-- the transactions rise, all up to the greatest TransID
record Ordered (log : List Record) : Type 0 where
  rising : Rising (transactions log)
  below : AllByRecursion (λ x. x ≤ greatest_trans log) (transactions log)

pub transactions-nil : transactions [] ≡ []
unfolding transactions
transactions-nil = refl

ordered : (log : List Record) → is_valid log ≡ true → Ordered log
ordered log v = valid_induction Ordered (record { rising = rw transactions-nil tt; below = rw transactions-nil tt }) step log v
  where
    raise : (m n : ℕ) → m ≤ n → (xs : List ℕ) → AllByRecursion (λ x. x ≤ m) xs → AllByRecursion (λ x. x ≤ n) xs
    raise m n le [] a = tt
    raise m n le (x ∷ rest) a = (let h : x ≤ m = a.0 in omega arith, raise m n le rest a.1)

    strict : (m t : ℕ) → m < t → (xs : List ℕ) → AllByRecursion (λ x. x ≤ m) xs → AllByRecursion (λ x. x < t) xs
    strict m t lt [] a = tt
    strict m t lt (x ∷ rest) a = (let h : x ≤ m = a.0 in omega arith, strict m t lt rest a.1)

    push : (xs : List ℕ) (t n : ℕ) → t ≤ n → AllByRecursion (λ x. x ≤ n) xs → AllByRecursion (λ x. x ≤ n) (xs ++ t ∷ [])
    push [] t n le a = (le, tt)
    push (x ∷ rest) t n le a = (a.0, push rest t n le a.1)

    step : (l : List Record) (r : Record) → is_valid l ≡ true → Ordered l → Admitted l r → Ordered (l ++ r ∷ [])
    step l r w o a = go (is_transactional r.body) (is_among (transactions l) r.trans.0) refl refl
      where
        up : AllByRecursion (λ x. x ≤ greatest_trans (l ++ r ∷ [])) (transactions l)
        up = let e : greatest_trans (l ++ r ∷ []) ≡ max (greatest_trans l) r.trans.0 = greatest_trans-push l r in raise (greatest_trans l) (greatest_trans (l ++ r ∷ [])) (omega arith) (transactions l) o.below

        same : transactions (l ++ r ∷ []) ≡ transactions l → Ordered (l ++ r ∷ [])
        same e = record { rising = rw e o.rising; below = rw e up }

        go : (t m : Bool) → is_transactional r.body ≡ t → is_among (transactions l) r.trans.0 ≡ m → Ordered (l ++ r ∷ [])
        go true true p q = same (transactions-push l r ∙ rw (p, q) refl)
        go false m p q = same (transactions-push l r ∙ rw p refl)
        go true false p q =
            let e : transactions (l ++ r ∷ []) ≡ transactions l ++ r.trans.0 ∷ [] = transactions-push l r ∙ rw (p, q) refl in
            let lt : greatest_trans l < r.trans.0 = above p q in
            let g : greatest_trans (l ++ r ∷ []) ≡ max (greatest_trans l) r.trans.0 = greatest_trans-push l r in
            record { rising = rw e (Rising-push (transactions l) r.trans.0 o.rising (strict (greatest_trans l) r.trans.0 lt (transactions l) o.below)); below = rw e (push (transactions l) r.trans.0 (greatest_trans (l ++ r ∷ [])) (omega arith) up) }
          where
            above : is_transactional r.body ≡ true → is_among (transactions l) r.trans.0 ≡ false → greatest_trans l < r.trans.0
            above p q = new_above l r a p (sym (is_among-transactions l r.trans.0) ∙ q)

-- in a valid log the transactions, and so the rows of the table, stand in rising TransID
pub Rising-transactions : (log : List Record) → is_valid log ≡ true → Rising (transactions log)
Rising-transactions log v = (ordered log v).rising

pub Rising-unended : (log : List Record) → is_valid log ≡ true → Rising (unended log)
unfolding unended
Rising-unended log v = Rising-filter (is_unended log) (transactions log) (Rising-transactions log v)

-- none of them is above the greatest
pub All-transactions_below : (log : List Record) → is_valid log ≡ true → AllByRecursion (λ x. x ≤ greatest_trans log) (transactions log)
All-transactions_below log v = (ordered log v).below
