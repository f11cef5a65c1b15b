use Rattle.std.proofs.Common.{◌∙◌}
use Rattle.als_page.proofs.HeadLaws.{head_bytes-parts}
use Rattle.als_page.proofs.block.write_head.Goals as goal

pub returns : goal.returns
returns c = head_bytes-parts c.copy_from_slice.new.self c.copy_from_slice-2.new.self c.copy_from_slice-3.new.self c.args.lsn.0 c.args.id
    (c.copy_from_slice.ensures.after ∙ c.to_be_bytes.ensures) (c.copy_from_slice-2.ensures.after ∙ c.to_be_bytes-2.ensures) c.copy_from_slice-3.ensures.after
