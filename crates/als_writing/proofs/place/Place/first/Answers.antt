use Rattle.std.proofs.Common.{refl}
use Rattle.als_writing.proofs.Behind.{IsPlaceOf-first}
use Rattle.als_writing.proofs.place.Place.first.Goals as goal

pub returns-clause-place : goal.returns-clause-place
returns-clause-place c log v e n = IsPlaceOf-first log (record { end = c.args.end; prev = record { 0 = 0 }; trans = c.args.trans }) v e n refl
