use Rattle.std.proofs.Common.{sym, subst}
use Rattle.als_validator.specs.Keys.{AreKeysOf}
use Rattle.als_validator.proofs.judging.Judging.key_now.Goals as goal

pub returns : goal.returns
returns c pages log v table valid fits = c.key_now.ensures pages log (subst (λ keys. AreKeysOf keys pages log) (sym c.as_slice.ensures.value) v.keys) table valid fits
