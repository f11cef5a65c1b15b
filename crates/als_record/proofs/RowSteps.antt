-- Reading rows one after the other, as a loop does.
use Rattle.std.proofs.Common.{◌≡◌, ℕ, suc, ◌-◌, ◌+◌, ◌≤◌, ◌<◌, List, [], ◌∷◌, ◌++◌, drop, sym, ap, ◌∙◌, append_assoc, arith}
use Rattle.std.proofs.lemmas.List.{append-nil}
use Rattle.als_record.specs.declared.rows.LoggedTransaction.{LoggedTransaction}
use Rattle.als_record.specs.declared.rows.LoggedPage.{LoggedPage}
use Rattle.als_record.specs.Reading.{transaction_at, transactions_at, page_row_at, pages_at}

pub transactions_step : (rows total : List LoggedTransaction) (count i : ℕ) (bytes : List ℕ) → i < count → rows ++ transactions_at (count - i) bytes ≡ total → (rows ++ transaction_at bytes ∷ []) ++ transactions_at (count - (i + 1)) (drop 21 bytes) ≡ total
unfolding transactions_at
transactions_step rows total count i bytes lt so_far =
    let k : count - i ≡ suc (count - (i + 1)) = omega arith in
    append_assoc rows (transaction_at bytes ∷ []) (transactions_at (count - (i + 1)) (drop 21 bytes)) ∙ ap (λ (n : ℕ). rows ++ transactions_at n bytes) (sym k) ∙ so_far

pub transactions_end : (rows total : List LoggedTransaction) (count i : ℕ) (bytes : List ℕ) → count ≤ i → rows ++ transactions_at (count - i) bytes ≡ total → rows ≡ total
unfolding transactions_at
transactions_end rows total count i bytes le so_far =
    let k : count - i ≡ 0 = omega arith in
    sym (append-nil rows) ∙ ap (λ (n : ℕ). rows ++ transactions_at n bytes) (sym k) ∙ so_far

pub pages_step : (rows total : List LoggedPage) (count i : ℕ) (bytes : List ℕ) → i < count → rows ++ pages_at (count - i) bytes ≡ total → (rows ++ page_row_at bytes ∷ []) ++ pages_at (count - (i + 1)) (drop 12 bytes) ≡ total
unfolding pages_at
pages_step rows total count i bytes lt so_far =
    let k : count - i ≡ suc (count - (i + 1)) = omega arith in
    append_assoc rows (page_row_at bytes ∷ []) (pages_at (count - (i + 1)) (drop 12 bytes)) ∙ ap (λ (n : ℕ). rows ++ pages_at n bytes) (sym k) ∙ so_far

pub pages_end : (rows total : List LoggedPage) (count i : ℕ) (bytes : List ℕ) → count ≤ i → rows ++ pages_at (count - i) bytes ≡ total → rows ≡ total
unfolding pages_at
pages_end rows total count i bytes le so_far =
    let k : count - i ≡ 0 = omega arith in
    sym (append-nil rows) ∙ ap (λ (n : ℕ). rows ++ pages_at n bytes) (sym k) ∙ so_far
