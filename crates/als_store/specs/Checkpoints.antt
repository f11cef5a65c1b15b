-- The checkpoints of a store: what they hold of the log, and what they promise of the pages.
use Rattle.std.specs.Prelude.{List, Option, IfSome}
use Rattle.std.specs.List.{AllByRecursion}
use Rattle.als_record.specs.declared.record.Record.{Record}
use Rattle.als_record.specs.Table.{table_of}
use Rattle.als_ckpt_codec.specs.declared.checkpoint.Checkpoint.{Checkpoint}
use Rattle.als_ckpt.specs.Regions.{Held, Begun}
use Rattle.als_dirty.specs.Rows as dirty
use Rattle.als_pool.specs.Pooled.{Pooled}
use Rattle.als_pool.specs.Restart.{IsRowBelow, CoversPages}
use Rattle.als_tables.specs.Copies.{logged_rows}
use Rattle.als_tables.specs.Fronts.{numbers_of, IsOfFront}

-- the checkpoint of a log and its pages as they are: the numbers and the transaction table of the
-- whole log, and the rows of the dirty pages
abbrev pub checkpoint_of : List Record → Pooled → Checkpoint
checkpoint_of log pool = record {
  numbers = numbers_of log;
  transactions = logged_rows (table_of log);
  pages = dirty.rows_of pool.dirty;
}

-- A checkpoint of the log, and of the pages as they were last synced: each RecLSN is below its
-- position, and no image last synced lacks a record of the log from before its page's row, or from
-- before the position where the page has no row.
pub record IsCovering (log : List Record) (pool : Pooled) (c : Checkpoint) : Type 0 where
  pub of_front : IsOfFront log c
  pub listed : AllByRecursion (IsRowBelow c.numbers.position) c.pages
  pub covers : CoversPages log c.numbers.position c.pages pool

-- So is each checkpoint that a region holds, and one that is begun.
pub record AreCovering (log : List Record) (pool : Pooled) (held : Held)
    (begun : Option Begun) : Type 0 where
  pub first : IfSome held.first (IsCovering log pool)
  pub second : IfSome held.second (IsCovering log pool)
  pub coming : IfSome begun (λ b. IsCovering log pool b.checkpoint)
