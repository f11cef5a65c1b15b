-- How the table is kept: in order, counted, and with room for each transaction that can be unended.
use Rattle.std.specs.Prelude.{◌≡◌, ℕ, ◌%◌, ◌^◌, ◌≤◌, ◌<◌, List, length, slice_index_or, map}
use Rattle.std.specs.List.{AllPairs, sum_by}
use Rattle.als_record.specs.declared.transaction_row.TransactionRow.{TransactionRow}
use Rattle.als_analysis.specs.declared.open_row.OpenRow.{OpenRow}
use Rattle.als_analysis.specs.Open.{owed}

-- the TransIDs of rows
abbrev pub numbers : List TransactionRow → List ℕ
numbers rows = map (λ row. row.trans.0) rows

-- the transactions stand in rising TransID
abbrev pub IsRising : List OpenRow → Type 0
IsRising entries = AllPairs (λ a b. a.row.trans.0 < b.row.trans.0) entries

-- the first place whose transaction is not below a TransID
pub record IsPlace (entries : List OpenRow) (t place : ℕ) : Type 0 where
  pub within : place ≤ length entries
  pub below : (k : ℕ) (d : OpenRow) → k < place → (slice_index_or entries k d).row.trans.0 < t
  pub above : (k : ℕ) (d : OpenRow) → place ≤ k → k < length entries → t ≤ (slice_index_or entries k d).row.trans.0

-- What the table keeps of itself. The sum is that of what is counted of each transaction, modulo 2^64.
pub record IsKept (entries : List OpenRow) (reserve capacity : ℕ) : Type 0 where
  pub rising : IsRising entries
  pub few : length entries ≤ 256
  pub counted : reserve ≡ sum_by owed entries % 2 ^ 64
  pub room : 256 ≤ capacity
