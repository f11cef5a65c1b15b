use Rattle.std.proofs.Common.{◌≡◌, length, arith}
use Rattle.als_log.proofs.Keeping.{reach}
use Rattle.als_log.proofs.local_log.LocalLog.end.Goals as goal

pub returns-clause-end : goal.returns-clause-end
returns-clause-end g c =
    let len : c.len.result ≡ length c.self.inside.tail.items = omega (arith, c.len.ensures) in
    rw (← c.self.view_is) (omega (arith, reach c.self.invariant, len))
