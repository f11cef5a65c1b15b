-- What a checkpoint holds of the front of a log that ends at its position.
use Rattle.std.specs.Prelude.{◌≡◌, List, ◌++◌}
use Rattle.als_record.specs.declared.record.Record.{Record}
use Rattle.als_record.specs.LogText.{end_of}
use Rattle.als_record.specs.Table.{table_of}
use Rattle.als_record.specs.Transactions.{greatest_trans}
use Rattle.als_record.specs.Validity.{open_checkpoint}
use Rattle.als_ckpt_codec.specs.declared.checkpoint.Checkpoint.{Checkpoint}
use Rattle.als_ckpt_codec.specs.declared.numbers.Numbers.{Numbers}
use Rattle.als_tables.specs.Counting.{commit_count, last_commit}
use Rattle.als_tables.specs.Copies.{logged_rows}

-- the numbers of a log: its end, its greatest TransID, the begin_chkpt that no end_chkpt has followed, how many commits, and the last of them
abbrev pub numbers_of : List Record → Numbers
numbers_of log = record {
  position = record { 0 = end_of log };
  greatest = record { 0 = greatest_trans log };
  open_checkpoint = record { 0 = open_checkpoint log };
  commits = commit_count log;
  last_commit = record { 0 = last_commit log };
}

-- the numbers and the transaction rows of a checkpoint are those of a log
pub record IsCheckpointOf (log : List Record) (c : Checkpoint) : Type 0 where
  pub numbers : c.numbers ≡ numbers_of log
  pub transactions : c.transactions ≡ logged_rows (table_of log)

-- The numbers and the transaction rows of the checkpoint are those of the log's front that ends at its position.
pub record IsOfFront (log : List Record) (c : Checkpoint) : Type 0 where
  pub front : List Record
  pub rest : List Record
  pub parts : log ≡ front ++ rest
  pub holds : IsCheckpointOf front c
