-- The transactions in doubt of a log, row by row of its transaction table.
use Rattle.std.proofs.Common.{◌≡◌, ℕ, zero, suc, ◌+◌, ◌<◌, ◌≤◌, Bool, true, false, cond, List, [], ◌∷◌, ◌++◌, length, map, filter, take, get_or, refl, sym, ap, ◌∙◌, inl, inr, subst, arith, append-nil}
use Rattle.std.proofs.lemmas.Bool.{cases_Bool}
use Rattle.std.proofs.lemmas.List.{map_push, take_all}
use Rattle.std.proofs.lemmas.List.Elements.{filter_more}
use Rattle.std.specs.List.{AllByRecursion}
use Rattle.als_record.specs.declared.record.Record.{Record}
use Rattle.als_record.specs.declared.transaction_row.TransactionRow.{TransactionRow}
use Rattle.als_record.specs.Commits.{writes_of}
use Rattle.als_record.specs.Transactions.{is_unended, is_in_doubt, surviving, transactions, unended, in_doubt}
use Rattle.als_record.specs.Table.{is_prepared, state_of, row_of, table_of}
use Rattle.als_record.proofs.Unended.{All-unended, is_in_doubt-unended, is_prepared-state}
use Rattle.als_analysis.specs.declared.open_row.OpenRow.{OpenRow}
use Rattle.als_analysis.specs.Open.{rows_of}
use Rattle.als_commits.specs.Committing.{writes_in}
use Rattle.als_validator.specs.Lists.{survivors_in}
use Rattle.als_lookback.specs.Doubts.{Doubt, doubt_in, doubts_in}

-- what survives of an unended transaction is what it wrote
pub survivors-written : (log : List Record) (t : ℕ) (us : List Record) → is_unended log t ≡ true → us ≡ survivors_in log t → writes_in us ≡ writes_of log t
unfolding writes_of
survivors-written log t us u e = ap writes_in (e ∙ ap (λ b. cond b (surviving log t) []) u)

-- those in doubt are the unended ones that are
pub in_doubt-is : (log : List Record) → in_doubt log ≡ filter (is_in_doubt log) (unended log)
unfolding in_doubt unended
in_doubt-is log = go (transactions log)
  where
    go : (ts : List ℕ) → filter (is_in_doubt log) ts ≡ filter (is_in_doubt log) (filter (is_unended log) ts)
    go [] = refl
    go (x ∷ ts) = elim (cases_Bool (is_in_doubt log x)) [
      | inl d ↦ let u : is_unended log x ≡ true = is_in_doubt-unended log x d in rw (d, u) (rw d (ap (λ rest. x ∷ rest) (go ts)))
      | inr d ↦ elim (cases_Bool (is_unended log x)) [
        | inl u ↦ rw (d, u) (rw d (go ts))
        | inr u ↦ rw (d, u) (go ts)
      ]
    ]

-- ---- one row

row_at : (log : List Record) (ts : List ℕ) (entries : List OpenRow) (i : ℕ) (d : OpenRow) → rows_of entries ≡ map (row_of log) ts → i < length entries
    → (i < length ts) × ((get_or entries i d).row ≡ row_of log (get_or ts i 0))
row_at log [] [] i d e lt = absurd (omega arith)
row_at log [] (x ∷ xs) i d e lt = absurd (cc e)
row_at log (t ∷ ts) [] i d e lt = absurd (cc e)
row_at log (t ∷ ts) (x ∷ xs) zero d e lt = let first : x.row ≡ row_of log t = cc e in (omega arith, first)
row_at log (t ∷ ts) (x ∷ xs) (suc i) d e lt =
    let rest : rows_of xs ≡ map (row_of log) ts = cc e in
    let p = row_at log ts xs i d rest (omega arith) in
    (omega (arith, p.0), p.1)

at-unended : (log : List Record) (ts : List ℕ) (i : ℕ) → AllByRecursion (λ t. is_unended log t ≡ true) ts → i < length ts → is_unended log (get_or ts i 0) ≡ true
at-unended log [] i a lt = absurd (omega arith)
at-unended log (t ∷ ts) zero a lt = a.0
at-unended log (t ∷ ts) (suc i) a lt = at-unended log ts i a.1 (omega arith)

-- the transaction of a row, whether it is in doubt, and that it is unended
pub record IsRowOf (log : List Record) (i : ℕ) (row : TransactionRow) : Type 0 where
  pub within : i < length (unended log)
  pub number : row.trans.0 ≡ get_or (unended log) i 0
  pub open_one : is_unended log row.trans.0 ≡ true
  pub doubted : is_prepared row.state ≡ is_in_doubt log (get_or (unended log) i 0)

pub row-of : (log : List Record) (entries : List OpenRow) (i : ℕ) (d : OpenRow) (row : TransactionRow) → rows_of entries ≡ table_of log → i < length entries → row ≡ (get_or entries i d).row → IsRowOf log i row
unfolding table_of row_of
row-of log entries i d row e lt at =
    let p = row_at log (unended log) entries i d e lt in
    let t : ℕ = get_or (unended log) i 0 in
    let is : row ≡ row_of log t = at ∙ p.1 in
    let open_one : is_unended log t ≡ true = at-unended log (unended log) i (All-unended log) p.0 in
    let number : row.trans.0 ≡ t = ap (λ (r : TransactionRow). r.trans.0) is in
    record {
      within = p.0;
      number = number;
      open_one = ap (is_unended log) number ∙ open_one;
      doubted = ap (λ (r : TransactionRow). is_prepared r.state) is ∙ is_prepared-state log t open_one;
    }

-- ---- row by row

-- those in doubt of the first rows
abbrev pub doubts_below : List Record → ℕ → List Doubt
doubts_below log i = map (doubt_in log) (filter (is_in_doubt log) (take i (unended log)))

pub doubts-none : (log : List Record) → doubts_below log 0 ≡ []
doubts-none log = refl

-- with what one more row adds
pub doubts-next : (log : List Record) (i : ℕ) (row : TransactionRow) (ds more : List Doubt) → IsRowOf log i row → ds ≡ doubts_below log i → more ≡ ds ++ cond (is_prepared row.state) (doubt_in log row.trans.0 ∷ []) [] → more ≡ doubts_below log (i + 1)
doubts-next log i row ds more r so_far is =
    let ts : List ℕ = unended log in
    let t : ℕ = get_or ts i 0 in
    let below : List ℕ = filter (is_in_doubt log) (take i ts) in
    is
    ∙ ap (λ (xs : List Doubt). xs ++ cond (is_prepared row.state) (doubt_in log row.trans.0 ∷ []) []) so_far
    ∙ ap (λ (n : ℕ). map (doubt_in log) below ++ cond (is_prepared row.state) (doubt_in log n ∷ []) []) r.number
    ∙ ap (λ (b : Bool). map (doubt_in log) below ++ cond b (doubt_in log t ∷ []) []) r.doubted
    ∙ go (is_in_doubt log t)
    ∙ ap (map (doubt_in log)) (sym (filter_more (is_in_doubt log) ts i 0 r.within))
  where
    go : (b : Bool) → map (doubt_in log) (filter (is_in_doubt log) (take i (unended log))) ++ cond b (doubt_in log (get_or (unended log) i 0) ∷ []) [] ≡ map (doubt_in log) (filter (is_in_doubt log) (take i (unended log)) ++ cond b (get_or (unended log) i 0 ∷ []) [])
    go true = sym (map_push (doubt_in log) (filter (is_in_doubt log) (take i (unended log))) (get_or (unended log) i 0))
    go false = append-nil (map (doubt_in log) (filter (is_in_doubt log) (take i (unended log)))) ∙ ap (map (doubt_in log)) (sym (append-nil (filter (is_in_doubt log) (take i (unended log)))))

-- as many rows as there are
pub doubts-all : (log : List Record) (entries : List OpenRow) (i : ℕ) (ds : List Doubt) → rows_of entries ≡ table_of log → length entries ≤ i → ds ≡ doubts_below log i → ds ≡ doubts_in log
unfolding table_of
doubts-all log entries i ds e le so_far =
    let ts : List ℕ = unended log in
    let count : length ts ≤ i = omega (arith, le, lengths ts entries e) in
    so_far ∙ ap (λ (xs : List ℕ). map (doubt_in log) (filter (is_in_doubt log) xs)) (take_all i ts count) ∙ ap (map (doubt_in log)) (sym (in_doubt-is log))
  where
    lengths : (ts : List ℕ) (xs : List OpenRow) → rows_of xs ≡ map (row_of log) ts → length ts ≡ length xs
    lengths [] [] q = refl
    lengths [] (x ∷ xs) q = absurd (cc q)
    lengths (t ∷ ts) [] q = absurd (cc q)
    lengths (t ∷ ts) (x ∷ xs) q = let rest : rows_of xs ≡ map (row_of log) ts = cc q in ap suc (lengths ts xs rest)
