use Rattle.als_world.proofs.SealLaws.{same_sealed, sealed_in}
use Rattle.als_world.proofs.laws.one_sealed_log.Goals as goal

pub returns : goal.returns
returns c = record { one = same_sealed; there = sealed_in }
