-- How the undo of one transaction walks its records (Mohan et al., TODS 1992, sections 3 and 5.2: compensation records point past
-- what is undone).
use Rattle.std.specs.Prelude.{ℕ, ◌==◌, List, [], ◌∷◌, ◌++◌, reverse, if◌then◌else◌}
use Rattle.als_record.specs.declared.record.Body.{Body}
use Rattle.als_record.specs.declared.record.Body.TheVariants.{Update, Compensation}
use Rattle.als_record.specs.declared.record.Record.{Record}
use Rattle.als_record.specs.Transactions.{records_of}

-- the update that a record of the chain is
abbrev pub undone_at : Record → Body → List Record
undone_at r (Update key before after) = r ∷ []
undone_at r _ = []

-- where the chain goes on: behind an update at the record before it, behind a compensation at its UndoNxtLSN
abbrev pub goes_to : Record → Body → ℕ
goes_to r (Compensation undo_next key after) = undo_next.0
goes_to r _ = r.prev.0

-- the updates that undo meets from an LSN on, among a transaction's records, the newest first
unfoldable pub undo_chain : ℕ → List Record → List Record
undo_chain n [] = []
undo_chain n (r ∷ rest) = if r.lsn.0 == n then undone_at r r.body ++ undo_chain (goes_to r r.body) rest else undo_chain n rest

-- a transaction's records, the newest first
abbrev pub backwards : List Record → ℕ → List Record
backwards log t = reverse (records_of log t)
