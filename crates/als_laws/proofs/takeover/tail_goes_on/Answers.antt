use Rattle.als_record.proofs.TailSteps.{tail_of-front}
use Rattle.als_laws.proofs.takeover.tail_goes_on.Goals as goal

pub returns : goal.returns
returns c log n = tail_of-front log n
