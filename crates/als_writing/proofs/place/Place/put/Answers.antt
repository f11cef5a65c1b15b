use Rattle.als_writing.proofs.Behind.{IsPlaceOf-next}
use Rattle.als_writing.proofs.place.Place.put.Goals as goal

pub returns-clause-goes_on : goal.returns-clause-goes_on
returns-clause-goes_on c log p w e = IsPlaceOf-next c.args.self.now log c.args.body c.encoded_len.result c.encoded_len.ensures.len p w e
