use Rattle.als_compare.proofs.Answering.{one_verdict}
use Rattle.als_compare.proofs.laws.one_answer.Goals as goal

pub returns : goal.returns
returns c = one_verdict
