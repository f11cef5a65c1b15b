use Rattle.als_reopen.proofs.Rebuilt.{IsNode-below}
use Rattle.als_reopen.proofs.below_mark.a_node_is_below_its_mark.Goals as goal

pub returns : goal.returns
returns c pages blocks log other control images n same h = IsNode-below pages blocks log other control images n same h
