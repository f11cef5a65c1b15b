use Rattle.als_epochs.proofs.JudgingLaws.{adopted-rises}
use Rattle.als_epochs.proofs.laws.adopted_seals_stay_lsns.Goals as goal

pub returns : goal.returns
returns c = adopted-rises
