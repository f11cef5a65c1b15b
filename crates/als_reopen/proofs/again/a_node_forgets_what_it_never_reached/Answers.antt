use Rattle.als_reopen.proofs.Restated.{IsNode-forgetting}
use Rattle.als_reopen.proofs.again.a_node_forgets_what_it_never_reached.Goals as goal

pub returns : goal.returns
returns c pages blocks log old new images n which h says = IsNode-forgetting pages blocks log old new images n h which says
