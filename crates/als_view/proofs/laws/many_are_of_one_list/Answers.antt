use Rattle.als_view.proofs.Manying.{of_one_list}
use Rattle.als_view.proofs.laws.many_are_of_one_list.Goals as goal

pub returns : goal.returns
returns c = of_one_list
