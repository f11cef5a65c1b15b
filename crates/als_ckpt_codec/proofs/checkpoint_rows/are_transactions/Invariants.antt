use Rattle.std.proofs.Common.{◌≡◌, drop}
use Rattle.als_ckpt_codec.specs.Checkpoint.{are_transactions}
use Rattle.als_ckpt_codec.proofs.checkpoint_rows.are_transactions.Given as goal

abbrev pub invariant-loop-row : goal.invariant-loop-row
invariant-loop-row l = record {
  told : are_transactions 0 l.rows ≡ are_transactions l.least (drop l.row-index l.rows);
}
