use Rattle.als_lead.proofs.Truths.{true_kept}
use Rattle.als_lead.proofs.laws.a_true_answer_stays_true.Goals as goal

pub returns : goal.returns
returns c old new told keeps valid is = true_kept old new told keeps valid is
