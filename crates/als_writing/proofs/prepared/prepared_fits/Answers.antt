use Rattle.std.proofs.Common.{◌+◌, ◌∷◌, ap, ◌∙◌}
use Rattle.als_record.specs.LogText.{end_of}
use Rattle.als_record.specs.Tail.{reserve_of}
use Rattle.als_writing.proofs.Preparing.{prepared-is, room_prepared, room-prepared_front}
use Rattle.als_writing.proofs.prepared.prepared_fits.Goals as goal

pub returns-clause-fronts : goal.returns-clause-fronts
returns-clause-fronts c pages log t w rest n l m = room-prepared_front pages log t l.valid w rest m n

pub returns-clause-met : goal.returns-clause-met
returns-clause-met c pages log t w rest l m = ap (λ l. end_of l + reserve_of l) (prepared-is pages log t (w ∷ rest) l.valid m) ∙ room_prepared pages log t l.valid w rest m
