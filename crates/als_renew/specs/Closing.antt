-- The transaction that keeps a number: no transaction behind it has that number or a lower one.
use Rattle.std.specs.Prelude.{◌≡◌, ℕ, ◌==◌, List, [], ◌++◌, nat_lt, if◌then◌else◌}
use Rattle.als_record.specs.declared.record.Record.{Record}
use Rattle.als_record.specs.LogText.{spellings, end_of}
use Rattle.als_record.specs.Transactions.{greatest_trans}
use Rattle.als_writing.specs.Writing.{transaction}

-- the number that is kept of a log with this greatest TransID: none where it is the last one that there is
abbrev pub kept_number : ℕ → ℕ
kept_number greatest = if greatest == 4294967295 then 0 else greatest

-- an empty transaction of a number behind a log; nothing where the log's own numbers reach it
abbrev pub closing : ℕ → List Record → List Record
closing t log = if nat_lt (greatest_trans log) t then transaction log t [] else []

-- these bytes are the empty transaction of a number behind the log, and end there
pub record SpellsNumber (t : ℕ) (log : List Record) (piece : List ℕ) (end : ℕ) : Type 0 where
  pub spelled : piece ≡ spellings (transaction log t [])
  pub ends : end ≡ end_of (log ++ transaction log t [])
