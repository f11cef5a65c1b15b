use Rattle.als_sending.proofs.Hearing.{acknowledged_told}
use Rattle.als_sending.proofs.laws.what_is_acknowledged_was_told.Goals as goal

pub returns : goal.returns
returns c = acknowledged_told
