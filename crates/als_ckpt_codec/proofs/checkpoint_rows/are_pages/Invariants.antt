use Rattle.std.proofs.Common.{◌≡◌, drop}
use Rattle.als_ckpt_codec.specs.Checkpoint.{are_pages}
use Rattle.als_ckpt_codec.proofs.checkpoint_rows.are_pages.Given as goal

abbrev pub invariant-loop-row : goal.invariant-loop-row
invariant-loop-row l = record {
  told : are_pages l.count 0 l.rows ≡ are_pages l.count l.least (drop l.row-index l.rows);
}
