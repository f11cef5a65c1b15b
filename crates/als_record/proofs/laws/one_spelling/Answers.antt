use Rattle.als_record.proofs.ReadingLaws.{one_spelling_is}
use Rattle.als_record.proofs.laws.one_spelling.Goals as goal

pub returns : goal.returns
returns c = one_spelling_is
