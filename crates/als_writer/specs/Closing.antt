-- How the records of a transaction close: by its commit and its end, or by its prepare record.
use Rattle.std.specs.Prelude.{ℕ, List}
use Rattle.als_record.specs.declared.record.Record.{Record}
use Rattle.als_record.specs.Commits.{Write}
use Rattle.als_writing.specs.Writing.{transaction, prepared}
use Rattle.als_writer.specs.declared.closing.Closing.{Closing}
use Rattle.als_writer.specs.declared.closing.Closing.TheVariants as closing

-- all records of a transaction that closes so
abbrev pub records_for : Closing → List Record → ℕ → List Write → List Record
records_for closing.Commit log t writes = transaction log t writes
records_for closing.Prepare log t writes = prepared log t writes

-- the room that it takes besides that of one which commits: the prepare record, and the reserve for a rollback record
abbrev pub extra_of : Closing → ℕ
extra_of closing.Commit = 0
extra_of closing.Prepare = 56
