use Rattle.als_log.proofs.Padding.{padded_at}
use Rattle.als_log.proofs.blocks.padded.Goals as goal

pub returns : goal.returns
returns c o lt = rw c.copy_from_slice.ensures.after (padded_at c.args.front.now 512 o)
