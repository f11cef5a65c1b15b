use Rattle.std.specs.Prelude.{ℕ, ◌==◌}
use Rattle.std.proofs.Common.{ap}
use Rattle.als_record.proofs.header_codec.ends_in_zeros.Goals as goal

pub returns : goal.returns
returns c = ap (λ (n : ℕ). n == 0) c.word.ensures
