use Rattle.als_compare.proofs.Answering.{other_differs, same_digests}
use Rattle.als_compare.proofs.laws.other_text_differs.Goals as goal

pub returns-clause-other : goal.returns-clause-other
returns-clause-other c = other_differs

pub returns-clause-same : goal.returns-clause-same
returns-clause-same c = same_digests
