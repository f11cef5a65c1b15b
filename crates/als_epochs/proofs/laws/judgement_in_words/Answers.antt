use Rattle.als_epochs.proofs.JudgingLaws.{judged-means}
use Rattle.als_epochs.proofs.laws.judgement_in_words.Goals as goal

pub returns : goal.returns
returns c = judged-means
