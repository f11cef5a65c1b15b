use Rattle.std.proofs.Common.{ℕ, ltb, ap}
use Rattle.als_writer.proofs.asking.is_in_log.Goals as goal

pub returns : goal.returns
returns g c a = ap (λ (n : ℕ). ltb c.args.lsn.0 n) (c.status.ensures.tells a).end
