use Rattle.std.proofs.Common.{arith}
use Rattle.als_renew.proofs.Fitting.{bytes_fit}
use Rattle.als_renew.proofs.page.bytes_len.Goals as goal

pub returns-clause-fit : goal.returns-clause-fit
returns-clause-fit c = bytes_fit c.args.bytes.now (λ k. omega (arith, c.type_inv.bytes k))
