-- The transactions that a log leaves in doubt, and what each of them wrote.
use Rattle.std.specs.Prelude.{ℕ, List, map}
use Rattle.als_record.specs.declared.record.Record.{Record}
use Rattle.als_record.specs.Transactions.{in_doubt}
use Rattle.als_record.specs.Commits.{Write, writes_of}

-- a transaction in doubt: its number, and what it wrote and did not undo
pub record Doubt : Type 0 where
  pub trans : ℕ
  pub writes : List Write

abbrev pub doubt_in : List Record → ℕ → Doubt
doubt_in log t = record { trans = t; writes = writes_of log t }

-- those of a log, in the order of their first records
abbrev pub doubts_in : List Record → List Doubt
doubts_in log = map (doubt_in log) (in_doubt log)
