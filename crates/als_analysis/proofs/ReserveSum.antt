-- The reserve is the sum of what each unended transaction owes.
use Rattle.std.proofs.Common.{◌≡◌, ℕ, ◌+◌, ◌%◌, ◌^◌, Bool, true, false, cond, not, ◌&&◌, List, [], ◌∷◌, map, filter, inl, inr, refl, sym, ap, ◌∙◌, arith}
use Rattle.std.specs.List.{sum_by}
use Rattle.std.proofs.Math.Nat.{add-mod-mod}
use Rattle.std.proofs.lemmas.Bool.{cases_Bool}
use Rattle.std.proofs.lemmas.List.Sums.{sum_by-cons}
use Rattle.als_record.specs.declared.record.Record.{Record}
use Rattle.als_record.specs.declared.transaction_state.TransactionState.{TransactionState}
use Rattle.als_record.specs.declared.transaction_state.TransactionState.TheVariants.{Active, Committed, RollingBack, Prepared}
use Rattle.als_record.specs.declared.transaction_row.TransactionRow.{TransactionRow}
use Rattle.als_record.specs.Transactions.{is_committed, has_rollback, has_prepare, is_unended, is_open, is_in_doubt, transactions, unended}
use Rattle.als_record.specs.Table.{state_of, row_of, table_of}
use Rattle.als_record.specs.Tail as tail
use Rattle.als_record.specs.Tail.{reserve_of}
use Rattle.als_record.proofs.Reserve.{reserve_of-each}
use Rattle.als_analysis.specs.declared.open_row.OpenRow.{OpenRow}
use Rattle.als_analysis.specs.Open.{undo_owed, owed, rows_of, bytes_of}
use Rattle.als_analysis.specs.Noted.{undo_bytes}
use Rattle.als_analysis.proofs.Counting.{wrapped-add}
use Rattle.als_analysis.proofs.UndoBytes.{undo_bytes-newest}

-- sums that agree where a test passes
sum-agree : (f g : ℕ → ℕ) (p : ℕ → Bool) → ((t : ℕ) → p t ≡ true → f t ≡ g t) → (xs : List ℕ) → sum_by f (filter p xs) ≡ sum_by g (filter p xs)
sum-agree f g p h [] = refl
sum-agree f g p h (x ∷ xs) = elim (cases_Bool (p x)) [
  | inl e ↦ rw e (sum_by-cons f x (filter p xs) ∙ (let q : f x ≡ g x = h x e in let r : sum_by f (filter p xs) ≡ sum_by g (filter p xs) = sum-agree f g p h xs in let s : f x + sum_by f (filter p xs) ≡ g x + sum_by g (filter p xs) = cc in s) ∙ sym (sum_by-cons g x (filter p xs)))
  | inr e ↦ rw e (sum-agree f g p h xs)
]

-- what one unended transaction owes
owed-one : (log : List Record) (t : ℕ) → is_unended log t ≡ true → 28 + cond (is_in_doubt log t) 28 0 + cond (is_open log t) (tail.undo_bytes log t) 0 ≡ 28 + undo_owed (state_of log t) (undo_bytes log t)
unfolding state_of is_open is_in_doubt tail.undo_bytes
owed-one log t u = rw (u, undo_bytes-newest log t) (go (is_committed log t) (has_rollback log t) (has_prepare log t) (tail.undo_bytes log t))
  where
    go : (c h p : Bool) (n : ℕ) → 28 + cond (true && p && not c && not h) 28 0 + cond (true && not c) n 0 ≡ 28 + undo_owed (cond c Committed (cond h RollingBack (cond p Prepared Active))) n
    go true h true n = omega arith
    go true h false n = omega arith
    go false true true n = omega arith
    go false true false n = omega arith
    go false false true n = omega arith
    go false false false n = omega arith

-- the reserve is the sum of what each unended transaction owes
reserve_of-sum : (log : List Record) → reserve_of log ≡ sum_by (λ t. 28 + undo_owed (state_of log t) (undo_bytes log t)) (unended log)
unfolding unended
reserve_of-sum log =
    reserve_of-each log
    ∙ sum-agree (λ t. 28 + cond (is_in_doubt log t) 28 0 + cond (is_open log t) (tail.undo_bytes log t) 0) (λ t. 28 + undo_owed (state_of log t) (undo_bytes log t)) (is_unended log) (owed-one log) (transactions log)

owed-mod : (s : TransactionState) (bytes : ℕ) → (28 + undo_owed s (bytes % 2 ^ 64)) % 2 ^ 64 ≡ (28 + undo_owed s bytes) % 2 ^ 64
owed-mod Active bytes = add-mod-mod 28 bytes (2 ^ 64)
owed-mod Committed bytes = refl
owed-mod RollingBack bytes = add-mod-mod 28 bytes (2 ^ 64)
owed-mod Prepared bytes =
    let a : 28 + (28 + bytes % 2 ^ 64) ≡ 56 + bytes % 2 ^ 64 = omega arith in
    let b : 28 + (28 + bytes) ≡ 56 + bytes = omega arith in
    ap (λ n. n % 2 ^ 64) a ∙ add-mod-mod 56 bytes (2 ^ 64) ∙ ap (λ n. n % 2 ^ 64) (sym b)

owed-sum : (F : ℕ → TransactionRow) (G : ℕ → ℕ) (entries : List OpenRow) (ts : List ℕ) → rows_of entries ≡ map F ts → bytes_of entries ≡ map (λ t. G t % 2 ^ 64) ts → sum_by owed entries % 2 ^ 64 ≡ sum_by (λ t. 28 + undo_owed (F t).state (G t)) ts % 2 ^ 64
owed-sum F G [] [] p q = refl
owed-sum F G [] (t ∷ ts) p q = absurd (cc p)
owed-sum F G (o ∷ entries) [] p q = absurd (cc p)
owed-sum F G (o ∷ entries) (t ∷ ts) p q =
    let row : o.row ≡ F t = cc p in
    let bytes : o.undo_bytes ≡ G t % 2 ^ 64 = cc q in
    let rows : rows_of entries ≡ map F ts = cc p in
    let counts : bytes_of entries ≡ map (λ t. G t % 2 ^ 64) ts = cc q in
    let a : sum_by owed (o ∷ entries) ≡ owed o + sum_by owed entries = sum_by-cons owed o entries in
    let b : sum_by (λ t. 28 + undo_owed (F t).state (G t)) (t ∷ ts) ≡ 28 + undo_owed (F t).state (G t) + sum_by (λ t. 28 + undo_owed (F t).state (G t)) ts = sum_by-cons (λ (t : ℕ). 28 + undo_owed (F t).state (G t)) t ts in
    let c : owed o % 2 ^ 64 ≡ (28 + undo_owed (F t).state (G t)) % 2 ^ 64 = ap (λ (r : TransactionRow). (28 + undo_owed r.state o.undo_bytes) % 2 ^ 64) row ∙ ap (λ n. (28 + undo_owed (F t).state n) % 2 ^ 64) bytes ∙ owed-mod (F t).state (G t) in
    let r : sum_by owed entries % 2 ^ 64 ≡ sum_by (λ t. 28 + undo_owed (F t).state (G t)) ts % 2 ^ 64 = owed-sum F G entries ts rows counts in
    ap (λ n. n % 2 ^ 64) a
    ∙ sym (wrapped-add (owed o) (sum_by owed entries))
    ∙ ap (λ n. (n + sum_by owed entries % 2 ^ 64) % 2 ^ 64) c
    ∙ ap (λ n. ((28 + undo_owed (F t).state (G t)) % 2 ^ 64 + n) % 2 ^ 64) r
    ∙ wrapped-add (28 + undo_owed (F t).state (G t)) (sum_by (λ t. 28 + undo_owed (F t).state (G t)) ts)
    ∙ ap (λ n. n % 2 ^ 64) (sym b)

-- what the entries of the table of a log owe is the log's reserve
pub owed-reserve : (log : List Record) (entries : List OpenRow) → rows_of entries ≡ table_of log → bytes_of entries ≡ map (λ t. undo_bytes log t % 2 ^ 64) (unended log) → sum_by owed entries % 2 ^ 64 ≡ reserve_of log % 2 ^ 64
unfolding table_of row_of
owed-reserve log entries p q = owed-sum (row_of log) (undo_bytes log) entries (unended log) p q ∙ ap (λ n. n % 2 ^ 64) (sym (reserve_of-sum log))
