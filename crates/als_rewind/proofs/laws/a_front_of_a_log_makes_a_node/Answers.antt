use Rattle.als_rewind.specs.Fronts.{front_node}
use Rattle.als_rewind.proofs.Nodes.{HoldsLog-front}
use Rattle.als_rewind.proofs.laws.a_front_of_a_log_makes_a_node.Goals as goal

pub returns : goal.returns
returns c pages blocks log old new images n front rest history held parts fits says zeros =
    c.a_log_makes_its_pages_anew.ensures pages blocks log new new images (front_node blocks history front) (HoldsLog-front pages blocks log old new n front rest history held parts fits says) tt says zeros
