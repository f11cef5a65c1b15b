use Rattle.als_compare.proofs.RankOrder.{one_above, not_both, above_above, greatest_seal, own_seal}
use Rattle.als_compare.proofs.laws.ranks_are_in_order.Goals as goal

pub returns-clause-total : goal.returns-clause-total
returns-clause-total c = one_above

pub returns-clause-one_way : goal.returns-clause-one_way
returns-clause-one_way c = not_both

pub returns-clause-transitive : goal.returns-clause-transitive
returns-clause-transitive c = above_above

pub returns-clause-greatest : goal.returns-clause-greatest
returns-clause-greatest c = λ seals end seal history h within. greatest_seal seals end seal history.rises h within

pub returns-clause-own : goal.returns-clause-own
returns-clause-own c = own_seal
