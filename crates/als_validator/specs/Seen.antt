-- What the causes ask of a record's transaction.
use Rattle.std.specs.Prelude.{◌≡◌, ℕ, ◌==◌, List, [], ◌∷◌, Option, Some, None, option_copied, if◌then◌else◌}
use Rattle.std.specs.List.{list_any}
use Rattle.als_record.specs.declared.record.Record.{Record}
use Rattle.als_record.specs.declared.trans_id.TransId.{TransId}
use Rattle.als_record.specs.Transactions.{is_unended, is_committed, to_undo}
use Rattle.als_record.specs.Table.{row_of}
use Rattle.als_validator.specs.declared.past.Past.{Past}

-- the first of some updates
abbrev pub first_of : List Record → Option Record
first_of [] = None
first_of (u ∷ rest) = Some u

-- the past of a transaction: its row and its newest surviving update, neither where it is not unended
pub record IsPastOf (past : Past) (log : List Record) (t : ℕ) : Type 0 where
  pub row : past.row ≡ (if is_unended log t then Some (row_of log t) else None)
  pub newest : option_copied past.newest ≡ (if is_unended log t then first_of (to_undo log t) else None)

-- these are the transactions that have committed
pub record AreCommitted (ids : List TransId) (log : List Record) : Type 0 where
  pub each : (t : ℕ) → list_any (λ (id : TransId). id.0 == t) ids ≡ is_committed log t
