-- The rows of a table, copied one after another.
use Rattle.std.proofs.Common.{◌≡◌, ℕ, zero, suc, ◌+◌, ◌<◌, ◌≤◌, true, List, [], ◌∷◌, ◌++◌, length, map, get_or, take, refl, sym, ap, ◌∙◌, arith, length-append}
use Rattle.std.specs.Prelude.{nat_le, ◌&&◌}
use Rattle.std.specs.List.{AllByRecursion}
use Rattle.std.proofs.lemmas.Bool.{and_from, le-leb}
use Rattle.als_record.specs.declared.rows.LoggedTransaction.{LoggedTransaction}
use Rattle.als_record.specs.declared.record.Record.{Record}
use Rattle.als_record.specs.declared.transaction_state.TransactionState.{TransactionState}
use Rattle.als_record.specs.declared.transaction_state.TransactionState.TheVariants.{Active, Committed, RollingBack, Prepared}
use Rattle.als_record.specs.Orders.{Rising}
use Rattle.als_record.specs.Spelling.{IsLoggedTransaction}
use Rattle.als_record.specs.Table.{row_of, table_of}
use Rattle.als_record.specs.Transactions.{unended}
use Rattle.als_record.specs.Validity.{is_valid}
use Rattle.als_record.proofs.Places.{Rising-unended}
use Rattle.als_record.proofs.Takeover.{length-unended}
use Rattle.als_analysis.specs.declared.open_row.OpenRow.{OpenRow}
use Rattle.als_analysis.specs.Open.{rows_of}
use Rattle.als_ckpt_codec.specs.Checkpoint.{are_transactions}
use Rattle.als_tables.specs.Copies.{state_number, logged_row, logged_rows}

-- these are the first rows
pub record AreFirst (rows : List OpenRow) (count : ℕ) (copies : List LoggedTransaction) : Type 0 where
  pub copies_are : copies ≡ logged_rows (rows_of (take count rows))
  pub count_is : length copies ≡ count
  pub fit : AllByRecursion IsLoggedTransaction copies

take_more : (rows : List OpenRow) (count : ℕ) (o d : OpenRow) → count < length rows → get_or rows count d ≡ o → logged_rows (rows_of (take (suc count) rows)) ≡ logged_rows (rows_of (take count rows)) ++ logged_row o.row ∷ []
take_more [] count o d lt is = absurd (omega arith)
take_more (x ∷ rows) zero o d lt is = ap (λ (y : OpenRow). logged_row y.row ∷ []) is
take_more (x ∷ rows) (suc count) o d lt is = let below : count < length rows = omega arith in ap (λ (ts : List LoggedTransaction). logged_row x.row ∷ ts) (take_more rows count o d below is)

all_push : (ts : List LoggedTransaction) (t : LoggedTransaction) → AllByRecursion IsLoggedTransaction ts → IsLoggedTransaction t → AllByRecursion IsLoggedTransaction (ts ++ t ∷ [])
all_push [] t h p = (p, tt)
all_push (x ∷ ts) t h p = (h.0, all_push ts t h.1 p)

pub first_more : (rows : List OpenRow) (count : ℕ) (o d : OpenRow) (t : LoggedTransaction) (copies more : List LoggedTransaction) → count < length rows → get_or rows count d ≡ o → t ≡ logged_row o.row → IsLoggedTransaction t
    → more ≡ copies ++ t ∷ [] → AreFirst rows count copies → AreFirst rows (count + 1) more
first_more rows count o d t copies more lt is same fits more-is h = let one : suc count ≡ count + 1 = omega arith in record {
  copies_are = more-is ∙ ap (λ (ts : List LoggedTransaction). ts ++ t ∷ []) h.copies_are ∙ ap (λ (u : LoggedTransaction). logged_rows (rows_of (take count rows)) ++ u ∷ []) same ∙ sym (take_more rows count o d lt is) ∙ ap (λ (k : ℕ). logged_rows (rows_of (take k rows))) one;
  count_is = omega (arith, ap (λ (ts : List LoggedTransaction). length ts) more-is, length-append copies (t ∷ []), h.count_is);
  fit = rw more-is (all_push copies t h.fit fits);
}

-- ---- a table fits a checkpoint

length-map_row : (log : List Record) (ts : List ℕ) → length (map (row_of log) ts) ≡ length ts
length-map_row log [] = refl
length-map_row log (t ∷ ts) = ap (λ (n : ℕ). suc n) (length-map_row log ts)

pub few_rows : (log : List Record) → is_valid log ≡ true → length (table_of log) ≤ 256
unfolding table_of
few_rows log v = omega (arith, length-map_row log (unended log), length-unended log v)

state_high : (s : TransactionState) → state_number s ≤ 4
state_high Active = omega arith
state_high Committed = omega arith
state_high RollingBack = omega arith
state_high Prepared = omega arith

state_low : (s : TransactionState) → 1 ≤ state_number s
state_low Active = omega arith
state_low Committed = omega arith
state_low RollingBack = omega arith
state_low Prepared = omega arith

rise : (log : List Record) (least : ℕ) (ts : List ℕ) → AllByRecursion (λ t. least ≤ t) ts → Rising ts → are_transactions least (logged_rows (map (row_of log) ts)) ≡ true
unfolding row_of
rise log least [] low h = refl
rise log least (t ∷ ts) low h =
    let row = row_of log t in
    and_from (nat_le least t) (nat_le 1 (state_number row.state) && (nat_le (state_number row.state) 4 && are_transactions (t + 1) (logged_rows (map (row_of log) ts)))) (le-leb least t low.0)
    (and_from (nat_le 1 (state_number row.state)) (nat_le (state_number row.state) 4 && are_transactions (t + 1) (logged_rows (map (row_of log) ts))) (le-leb 1 (state_number row.state) (state_low row.state))
    (and_from (nat_le (state_number row.state) 4) (are_transactions (t + 1) (logged_rows (map (row_of log) ts))) (le-leb (state_number row.state) 4 (state_high row.state)) (rise log (t + 1) ts (above t ts h.0) h.1)))
  where
    above : (t : ℕ) (xs : List ℕ) → AllByRecursion (λ y. t < y) xs → AllByRecursion (λ y. t + 1 ≤ y) xs
    above t [] a = tt
    above t (x ∷ xs) a = (let lt : t < x = a.0 in omega (arith, lt), above t xs a.1)

all_from : (xs : List ℕ) → AllByRecursion (λ t. 0 ≤ t) xs
all_from [] = tt
all_from (x ∷ xs) = (omega arith, all_from xs)

pub rows_rise : (log : List Record) → is_valid log ≡ true → are_transactions 0 (logged_rows (table_of log)) ≡ true
unfolding table_of
rows_rise log v = rise log 0 (unended log) (all_from (unended log)) (Rising-unended log v)
