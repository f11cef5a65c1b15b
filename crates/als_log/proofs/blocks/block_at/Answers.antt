use Rattle.std.proofs.Common.{◌∙◌}
use Rattle.als_log.proofs.Padding.{part_at}
use Rattle.als_log.proofs.blocks.block_at.Goals as goal

pub returns : goal.returns
returns c o lt =
    c.padded.ensures o lt
    ∙ rw (c.split_at-2.ensures.front, c.split_at.ensures.back) (part_at c.args.bytes.now c.args.start c.min.result o lt (rw (← c.split_at.ensures.back) c.min.ensures))
