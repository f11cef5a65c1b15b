use Rattle.als_compare.proofs.Answering.{front_same}
use Rattle.als_compare.proofs.laws.front_is_the_same.Goals as goal

pub returns : goal.returns
returns c = front_same
