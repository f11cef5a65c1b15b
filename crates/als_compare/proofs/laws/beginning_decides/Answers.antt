use Rattle.als_compare.proofs.Answering.{begins_otherwise, begins_alike}
use Rattle.als_compare.proofs.laws.beginning_decides.Goals as goal

pub returns-clause-other : goal.returns-clause-other
returns-clause-other c = begins_otherwise

pub returns-clause-alike : goal.returns-clause-alike
returns-clause-alike c = begins_alike
