use Rattle.als_reopen.proofs.Rebuilt.{IsNode-unchecked}
use Rattle.als_reopen.proofs.rebuilding.a_node_needs_no_checkpoint.Goals as goal

pub returns : goal.returns
returns c pages blocks log old new images n h says = IsNode-unchecked pages blocks log old new images n h says
